-- A test with the equation of its answer; what follows from conjunctions, disjunctions and chains of refusals. Assumes nothing.
use Prim.Native.Nat.{ℕ}
use mathlib.Core.Path.{◌≡◌, refl, sym}
use mathlib.Core.Logic.{◌⊎◌, inl, inr}
use mathlib.Core.Bool.{Bool, true, false, ◌&&◌, ◌||◌, cond, false≢true}
use mathlib.Core.Option.{Option, none, some}
use native.Mathlib.Omega.{arith}

abbrev pub Split : Bool → Type 0
Split b = (b ≡ true) ⊎ (b ≡ false)

pub split : (b : Bool) → Split b
split true = inl refl
split false = inr refl

pub and_left : (a b : Bool) → (a && b) ≡ true → a ≡ true
and_left true b e = refl
and_left false b e = e

pub and_right : (a b : Bool) → (a && b) ≡ true → b ≡ true
and_right true b e = e
and_right false b e = absurd (false≢true e)

pub clash : {b : Bool} {X : Type 0} → b ≡ true → b ≡ false → X
clash {b} p q = let z : false ≡ true = cc in absurd (false≢true z)

-- Two tests that follow from one another are one.
pub same_test : (a b : Bool) → (a ≡ true → b ≡ true) → (b ≡ true → a ≡ true) → a ≡ b
same_test true true f g = refl
same_test true false f g = absurd (false≢true (f refl))
same_test false true f g = absurd (false≢true (g refl))
same_test false false f g = refl

pub or_left : (a b : Bool) → (a || b) ≡ false → a ≡ false
or_left true b e = e
or_left false b e = refl

pub or_right : (a b : Bool) → (a || b) ≡ false → b ≡ false
or_right true b e = absurd (false≢true (sym e))
or_right false b e = e

-- A chain of refusals that gave none: this test failed, and so did the rest.
pub passed : {A : Type 0} (c : Bool) (r : A) (o : Option A) → cond c (some r) o ≡ none → (c ≡ false) × (o ≡ none)
passed true r o e = let z : ◌≡◌ {A = ℕ} 0 1 = cc in absurd (omega arith)
passed false r o e = (refl, e)
