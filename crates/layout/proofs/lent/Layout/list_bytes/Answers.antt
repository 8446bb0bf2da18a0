-- The sum is the one that specs/ has.
use Rattle.std.proofs.Common.{refl}
use Rattle.layout.specs.Sizes.{list_bytes}
use Rattle.layout.proofs.lent.Layout.list_bytes.Goals as goal

pub returns : goal.returns
unfolding list_bytes
returns c = refl
