-- The sum is the one that specs/ has.
use Rattle.std.proofs.Common.{refl}
use Rattle.layout.specs.Fields.{dict_at}
use Rattle.layout.proofs.lent.Layout.dict_at.Goals as goal

pub returns : goal.returns
unfolding dict_at
returns c = refl
