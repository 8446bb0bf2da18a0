-- All names of a state across the kinds, ordered by their stamps. Assumes nothing.
use Rattle.std.specs.Prelude.{ℕ, zero, suc, cond, List, [], ◌∷◌, ◌++◌, eqb}
use Rattle.layout.specs.Sizes.{kinds}
use Rattle.model.specs.Names.{Name}
use Rattle.model.specs.State.{Stamped, Part, State, stamp_of}

-- The names of one kind with the stamp t.
abbrev pub with_stamp : ℕ → List Stamped → List Name
with_stamp t [] = []
with_stamp t (x ∷ xs) = cond (eqb t x.stamp) (x.name ∷ with_stamp t xs) (with_stamp t xs)

-- The names of all kinds below n with the stamp t.
abbrev pub all_with : (ℕ → Part) → ℕ → ℕ → List Name
all_with f t zero = []
all_with f t (suc n) = with_stamp t (f n).names ++ all_with f t n

-- All names with stamps below t, newest first.
abbrev pub ordered_below : (ℕ → Part) → ℕ → List Name
ordered_below f zero = []
ordered_below f (suc t) = all_with f t kinds ++ ordered_below f t

unfoldable pub ordered : State → List Name
ordered st = ordered_below st.part (stamp_of st.blocks)
