-- The product is the one that the step of the hash names.
use Rattle.std.proofs.Common.{rules}
use Rattle.fnv.specs.Fnv.{fnv_step}
use Rattle.fnv.proofs.fnv_step.Goals as goal

pub returns : goal.returns
unfolding fnv_step
returns c = search rules
