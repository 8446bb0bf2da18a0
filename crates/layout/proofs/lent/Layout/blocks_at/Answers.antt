-- The blocks begin where the last dictionary ends.
use Rattle.std.proofs.Common.{arith}
use Rattle.layout.specs.Fields.{blocks_at}
use Rattle.layout.proofs.Places.{dict-end}
use Rattle.layout.proofs.lent.Layout.blocks_at.Goals as goal

pub returns : goal.returns
unfolding blocks_at
returns c = omega (arith, dict-end c.args.self.now.sizes)
