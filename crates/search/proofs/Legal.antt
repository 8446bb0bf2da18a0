-- What the search for a name says of its refusals, where the name stands for arguments whose shape was checked. Assumes nothing.
use mathlib.Core.Path.{◌≡◌, sym, ap, subst, ◌∙◌}
use mathlib.Core.Logic.{◌⊎◌, inl, inr}
use mathlib.Core.Option.{none, some}
use Rattle.std.specs.Prelude.{Result, Ok, Err}
use Rattle.slices.specs.Bytes.{Bytes}
use Rattle.refusals.specs.declared.Refusal.{Refusal}
use Rattle.refusals.specs.Checked.{checked_by}
use Rattle.refusals.proofs.Told.{told-legal}
use Rattle.layout.specs.declared.Sizes.{Sizes}
use Rattle.model.specs.Names.{Name}
use Rattle.model.specs.Steps.{shape_refusal, checks}
use Rattle.model.proofs.Legal.{text-decides}
use Rattle.search.specs.declared.Search.{Search}
use Rattle.search.specs.Found.{SearchEnded, NameSought}

pub shape-legal : (s : Sizes) (a b : Name) → a ≡ b → Ok tt ≡ checked_by (shape_refusal s b) → shape_refusal s a ≡ none
shape-legal s a b e h = ap (shape_refusal s) e ∙ told-legal _ (sym h)

-- What was sought in a memory was sought in its slices.
pub sought-in : (s : Sizes) (a : Name) (r : Result Search Refusal) {lists lists' pages pages' : Bytes} → (lists ≡ lists') × (pages ≡ pages')
    → NameSought s pages lists a r → NameSought s pages' lists' a r
sought-in s a r {lists} {lists'} {pages} {pages'} e h =
    subst (λ (x : Bytes). NameSought s pages' x a r) e.0 (subst (λ (y : Bytes). NameSought s y lists a r) e.1 h)

module _ (s : Sizes) (pages lists : Bytes) (a b : Name) (given_is : a ≡ b) (shape : Ok tt ≡ checked_by (shape_refusal s b)) where
  -- An answer is one for a legal name.
  pub sought-legal : (r q : Search) → r ≡ q → NameSought s pages lists a (Ok r) → (checks s a ≡ none) × SearchEnded s pages lists a (Ok q)
  sought-legal r q e h = (text-decides s a (shape-legal s a b given_is shape) ∙ h.0, subst (λ (x : Search). SearchEnded s pages lists a (Ok x)) e h.1)

  -- A refusal is that of the text, or the search's.
  pub sought-refused : (why : Refusal) → NameSought s pages lists a (Err why)
      → (checks s a ≡ some why) ⊎ ((checks s a ≡ none) × SearchEnded s pages lists a (Err why))
  sought-refused why (inl t) = inl (text-decides s a (shape-legal s a b given_is shape) ∙ t)
  sought-refused why (inr h) = inr (text-decides s a (shape-legal s a b given_is shape) ∙ h.0, h.1)
