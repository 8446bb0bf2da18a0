-- The number at index i begins at byte N * i.
use Rattle.words.specs.Words.{number_at}
use Rattle.words.proofs.number_at.Goals as goal

pub returns : goal.returns
unfolding number_at
returns g c = c.number_from.ensures
