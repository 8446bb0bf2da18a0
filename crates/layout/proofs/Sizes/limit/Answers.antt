-- The limit's number is the one that specs/ has.
use Rattle.std.proofs.Common.{refl}
use Rattle.layout.specs.Sizes.{name_limit, limit}
use Rattle.layout.proofs.Sizes.limit.Goals as goal

pub returns : goal.returns
unfolding name_limit limit
returns c = refl
