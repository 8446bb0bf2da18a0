-- The second part of a name: where there is none. Assumes nothing.
use mathlib.Core.Path.{◌≡◌}
use mathlib.Core.Bool.{true}
use mathlib.Core.List.{[]}
use mathlib.Core.Option.{none}
use Rattle.layout.specs.declared.Sizes.{Sizes}
use Rattle.model.specs.Names.{Name}
use Rattle.model.specs.Kinds.{row}
use Rattle.model.specs.Steps.{shape_refusal}
use Rattle.model.proofs.Table.{first_only, no_second-row}
use Rattle.model.proofs.Legal.{legal-shape}

-- A name of legal shape has no second part where nothing of it would be stored.
pub shape-second : (s : Sizes) (a : Name) → shape_refusal s a ≡ none → first_only (row a.kind).way ≡ true → a.second ≡ []
shape-second s a e o = (legal-shape s a e).second (no_second-row a.kind o)
