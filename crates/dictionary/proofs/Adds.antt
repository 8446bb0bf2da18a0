-- Each answer of add is as promised. Assumes nothing.
use Prim.Native.Nat.{ℕ}
use mathlib.Core.Path.{◌≡◌, refl, ap}
use mathlib.Core.Logic.{inl, inr}
use mathlib.Core.Option.{none, some}
use native.Mathlib.Omega.{arith}
use lib.ListN.{length}
use Rattle.std.specs.Prelude.{Ok, Err}
use Rattle.slices.specs.Bytes.{Bytes}
use Rattle.refusals.specs.declared.Refusal.{Refusal}
use Rattle.layout.specs.declared.Sizes.{Sizes}
use Rattle.header.specs.Header.{header_of, sizes_in}
use Rattle.model.specs.Names.{Name}
use Rattle.model.specs.Answers.{AddAnswer}
use Rattle.model.specs.Steps.{checks}
use Rattle.model.proofs.Decide.{decided-illegal}
use Rattle.memory.specs.Promises.{AddPost}
use Rattle.memory.proofs.Beyond.{beyond-same}
use Rattle.enter.specs.Added.{AddsName}
use Rattle.memory.proofs.Headers.{header-refused, no-state, sizes-read, not-always, one-sizes}

pub add-unopened : (pages lists : Bytes) (a : Name) (why : Refusal) → header_of (length pages) lists ≡ Err why → AddPost pages lists a (AddAnswer.refused why) pages lists
add-unopened pages lists a why e =
    let q = header-refused (length pages) lists e in
    record {
      unopened = λ u. ap AddAnswer.refused q;
      illegal = λ w h. inl (ap AddAnswer.refused q);
      bounded = λ c. inl q;
      kept = λ f. (refl, refl);
      beyond = beyond-same (sizes_in lists) pages lists;
      whole = λ s st S. absurd (no-state pages lists e s st S);
    }

module _ (pages lists : Bytes) (s : Sizes) (e : header_of (length pages) lists ≡ Ok s) (a : Name) where
  pub add-illegal : (why : Refusal) → checks s a ≡ some why → AddPost pages lists a (AddAnswer.refused why) pages lists
  add-illegal why i =
      record {
        unopened = λ u. absurd (not-always pages lists s e u);
        illegal = λ w h.
            let j : checks s a ≡ some w = rw (sizes-read pages lists s e) at h in
            let v : why ≡ w = cc in inr (ap AddAnswer.refused v);
        bounded = λ c.
            let j : checks s a ≡ none = rw (sizes-read pages lists s e) at c in
            let z : ◌≡◌ {A = ℕ} 0 1 = cc in absurd (omega arith);
        kept = λ f. (refl, refl);
        beyond = beyond-same (sizes_in lists) pages lists;
        whole = λ t st S.
            let q : t ≡ s = one-sizes pages lists s e t st S in
            rw (decided-illegal t st a why (rw q i)) (refl, S);
      }

  pub add-legal : checks s a ≡ none → (r : AddAnswer) (pages' lists' : Bytes) → AddsName s a pages lists r pages' lists' → AddPost pages lists a r pages' lists'
  add-legal legal r pages' lists' h =
      record {
        unopened = λ u. absurd (not-always pages lists s e u);
        illegal = λ w i.
            let j : checks s a ≡ some w = rw (sizes-read pages lists s e) at i in
            let z : ◌≡◌ {A = ℕ} 0 1 = cc in absurd (omega arith);
        bounded = λ c. rw (sizes-read pages lists s e) h.bounded;
        kept = h.kept;
        beyond = rw (sizes-read pages lists s e) h.beyond;
        whole = λ t st S.
            let q : t ≡ s = one-sizes pages lists s e t st S in
            rw q (h.whole st (rw q at S) legal);
      }
