-- A function changed at one number. Assumes nothing.
use Rattle.std.specs.Prelude.{ℕ, cond, eqb}

-- f, with the value a at k.
abbrev pub upd : {A : Type 0} → (ℕ → A) → ℕ → A → ℕ → A
upd f k a j = cond (eqb k j) a (f j)
