-- The hash from FNV-1a's start.
use Rattle.std.proofs.Common.{rules}
use Rattle.fnv.specs.Fnv.{fnv_of}
use Rattle.fnv.proofs.fnv.Goals as goal

pub returns : goal.returns
unfolding fnv_of
returns c = search rules
