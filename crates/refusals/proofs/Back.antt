-- The refusal comes back from its number. Assumes nothing.
use mathlib.Core.Path.{◌≡◌, refl}
use mathlib.Core.Bool.{false}
use lib.Dec.{eqb}
use Rattle.refusals.specs.declared.Refusal.{Refusal}
use Rattle.refusals.specs.declared.Refusal.TheVariants.{BadSize, ShortMemory, Unopened, BadKind, TooLong, NotText, NoTag, ListFull, NoPage, NoBlock, ShortBuffer, HighNumber, CutForm}
use Rattle.refusals.specs.Numbers.{refusal_number, refusal_of}

-- A refusal by its number, and no refusal has the number 0.
pub refusal-back : (why : Refusal) → (refusal_of (refusal_number why) ≡ why) × (eqb (refusal_number why) 0 ≡ false)
refusal-back BadSize = (refl, refl)
refusal-back ShortMemory = (refl, refl)
refusal-back Unopened = (refl, refl)
refusal-back BadKind = (refl, refl)
refusal-back TooLong = (refl, refl)
refusal-back NotText = (refl, refl)
refusal-back NoTag = (refl, refl)
refusal-back ListFull = (refl, refl)
refusal-back NoPage = (refl, refl)
refusal-back NoBlock = (refl, refl)
refusal-back ShortBuffer = (refl, refl)
refusal-back HighNumber = (refl, refl)
refusal-back CutForm = (refl, refl)
