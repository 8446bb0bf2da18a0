-- The product is at most 2^30.
use Rattle.std.proofs.Common.{arith}
use Rattle.layout.specs.Sizes.{page_bytes}
use Rattle.layout.proofs.Ranges.{page-bytes}
use Rattle.layout.proofs.lent.Layout.page_bytes.Goals as goal

pub overflow_mul-result : goal.overflow_mul-result
unfolding page_bytes
overflow_mul-result c = rw c.page_size.ensures (omega (arith, page-bytes _ c.args.self.now.in_range))

pub returns : goal.returns
unfolding page_bytes
returns c = rw c.page_size.ensures
