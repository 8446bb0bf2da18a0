-- How many of the numbers f 0, .., f (m - 1) are not 0. Assumes nothing.
use Rattle.std.specs.Prelude.{ℕ, zero, suc, ◌+◌}

abbrev pub one : ℕ → ℕ
one zero = 0
one (suc n) = 1

unfoldable pub filled : (ℕ → ℕ) → ℕ → ℕ
filled f zero = 0
filled f (suc m) = one (f m) + filled f m
