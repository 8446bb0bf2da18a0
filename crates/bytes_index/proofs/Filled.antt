-- How many places are filled: none, all, as many as before, or one more. Assumes nothing.
use mathlib.Core.Path.{◌≡◌, refl, sym, ap}
use mathlib.Core.Logic.{◌≢◌}
use Prim.Native.Nat.{ℕ, zero, suc, ◌+◌, ◌≤◌, ◌<◌}
use native.Mathlib.Omega.{arith}
use native.Mathlib.Decide.{ℕ_discrete}
use Rattle.bytes_index.specs.Filled.{one, filled}

one-some : (n : ℕ) → n ≢ 0 → one n ≡ 1
one-some zero h = absurd (h refl)
one-some (suc n) h = refl

one-le : (n : ℕ) → one n ≤ 1
one-le zero = omega arith
one-le (suc n) = omega arith

-- At most all.
pub filled-le : (f : ℕ → ℕ) (m : ℕ) → filled f m ≤ m
unfolding filled
filled-le f zero = omega arith
filled-le f (suc m) = omega (arith, one-le (f m), filled-le f m)

pub filled-all : (f : ℕ → ℕ) (m : ℕ) → ((j : ℕ) → j < m → f j ≢ 0) → filled f m ≡ m
unfolding filled
filled-all f zero h = refl
filled-all f (suc m) h =
    omega (arith, one-some (f m) (h m (omega arith)), filled-all f m (λ j l. h j (omega arith)))

pub filled_none : (f : ℕ → ℕ) (m : ℕ) → ((j : ℕ) → j < m → f j ≡ 0) → filled f m ≡ 0
unfolding filled
filled_none f zero h = refl
filled_none f (suc m) h = omega (arith, ap one (h m (omega arith)), filled_none f m (λ j l. h j (omega arith)))

pub filled-agree : (f g : ℕ → ℕ) (m : ℕ) → ((j : ℕ) → j < m → g j ≡ f j) → filled g m ≡ filled f m
unfolding filled
filled-agree f g zero h = refl
filled-agree f g (suc m) h =
    omega (arith, ap one (h m (omega arith)), filled-agree f g m (λ j l. h j (omega arith)))

-- One more.
pub filled_put : (f g : ℕ → ℕ) (m j : ℕ) → j < m → f j ≡ 0 → g j ≢ 0 → ((k : ℕ) → k < m → k ≢ j → g k ≡ f k)
    → filled g m ≡ filled f m + 1
unfolding filled
filled_put f g zero j l e n h = omega arith
filled_put f g (suc m) j l e n h = go (λ g1. filled_put f g m j g1 e n (λ k i. h k (omega arith))) (ℕ_discrete j m)
  where
    go : (j < m → filled g m ≡ filled f m + 1) → Dec (j ≡ m) → one (g m) + filled g m ≡ one (f m) + filled f m + 1
    go ih (yes p) =
        let a : one (g m) ≡ 1 = rw (← p) (one-some (g j) n) in
        let b : one (f m) ≡ 0 = rw (← p) (ap one e) in
        omega (arith, filled-agree f g m (λ k i. h k (omega arith) (omega arith)))
    go ih (no p) =
        omega (arith, ap one (h m (omega arith) (λ q. p (sym q))), ih (omega arith))
