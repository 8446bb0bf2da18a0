-- What a check's answer tells of the refusal. Assumes nothing.
use Prim.Native.Nat.{ℕ}
use mathlib.Core.Path.{◌≡◌, refl}
use mathlib.Core.Option.{Option, none, some}
use native.Mathlib.Omega.{arith}
use Rattle.refusals.specs.declared.Refusal.{Refusal}
use Rattle.std.specs.Prelude.{Ok, Err}
use Rattle.refusals.specs.Checked.{checked_by}

pub told-legal : (o : Option Refusal) → checked_by o ≡ Ok tt → o ≡ none
told-legal none e = refl
told-legal (some why) e = let z : ◌≡◌ {A = ℕ} 0 1 = cc in absurd (omega arith)

pub told-illegal : (o : Option Refusal) (why : Refusal) → checked_by o ≡ Err why → o ≡ some why
told-illegal none why e = let z : ◌≡◌ {A = ℕ} 0 1 = cc in absurd (omega arith)
told-illegal (some r) why e = cc
