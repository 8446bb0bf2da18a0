-- Each answer of count is as promised. Assumes nothing.
use Prim.Native.Nat.{ℕ, zero, suc, ◌<◌, ◌≤◌}
use mathlib.Core.Path.{◌≡◌, refl, sym, ap, ◌∙◌}
use mathlib.Core.Logic.{inl, inr}
use native.Mathlib.Omega.{arith}
use borrow.Author.Tests.{le-leb, lt-leb, ne_eqb}
use lib.ListN.{length}
use Rattle.std.specs.Prelude.{Result, Ok, Err}
use Rattle.slices.specs.Bytes.{Bytes}
use Rattle.words.specs.Words.{word_at}
use Rattle.refusals.specs.declared.Refusal.{Refusal}
use Rattle.refusals.specs.declared.Refusal.TheVariants.{Unopened, BadKind}
use Rattle.layout.specs.declared.Sizes.{Sizes}
use Rattle.layout.specs.Sizes.{kinds}
use Rattle.layout.specs.Numbers.{kind_number, kind_by}
use Rattle.layout.specs.declared.Kind.{Kind}
use Rattle.layout.specs.declared.Kind.TheVariants.{Iri, Plain, Tagged, Typed}
use Rattle.layout.specs.declared.UnknownKind.{UnknownKind}
use Rattle.layout.specs.Fields.{count_at}
use Rattle.header.specs.Header.{header_of}
use Rattle.bytes_dictionary.specs.Reading.{count_in}
use Rattle.bytes_dictionary.proofs.Reading.{counted-by, uncounted}
use Rattle.model.specs.Answers.{CountAnswer}
use Rattle.model.specs.Kinds.{row}
use Rattle.model.specs.State.{State}
use Rattle.memory.specs.Stands.{Stands}
use Rattle.memory.specs.Promises.{CountBounded, CountPost}
use Rattle.dictionary_read.specs.Answers.{counted_by}
use Rattle.memory.proofs.Counts.{main-counted}
use Rattle.memory.proofs.Headers.{header-refused, no-state, sizes-read, not-always, one-sizes}

-- ---- a kind by its number

pub kind-unknown : (n : ℕ) (x : UnknownKind) → kind_by n ≡ Err x → kinds ≤ n
kind-unknown zero x e = absurd (cc e)
kind-unknown (suc zero) x e = absurd (cc e)
kind-unknown (suc (suc zero)) x e = absurd (cc e)
kind-unknown (suc (suc (suc zero))) x e = absurd (cc e)
kind-unknown (suc (suc (suc (suc n)))) x e = omega arith

pub kind-known : (n : ℕ) (k : Kind) → kind_by n ≡ Ok k → n ≡ kind_number k
kind-known zero k e =
    let q : Iri ≡ k = cc e in ap kind_number q
kind-known (suc zero) k e =
    let q : Plain ≡ k = cc e in ap kind_number q
kind-known (suc (suc zero)) k e =
    let q : Tagged ≡ k = cc e in ap kind_number q
kind-known (suc (suc (suc zero))) k e =
    let q : Typed ≡ k = cc e in ap kind_number q
kind-known (suc (suc (suc (suc n)))) k e =
    let m : ℕ = suc (suc (suc (suc n))) in
    let q : Err (record { 0 = m }) ≡ Ok k =
    rw (ne_eqb m 0 (λ p. omega arith), ne_eqb m 1 (λ p. omega arith), ne_eqb m 2 (λ p. omega arith), ne_eqb m 3 (λ p. omega arith)) at e in
    absurd (cc q)

-- ---- the answers

pub count-unopened : (pages lists : Bytes) (kind : ℕ) (why : Refusal) → header_of (length pages) lists ≡ Err why
    → CountPost pages lists kind (CountAnswer.refused why) pages lists
count-unopened pages lists kind why e =
    let q : why ≡ Unopened = header-refused (length pages) lists e in
    record {
      unopened = λ u. ap CountAnswer.refused q;
      illegal = λ h. inl (ap CountAnswer.refused q);
      bounded = λ k. q;
      kept = (refl, refl);
      whole = λ s st S. absurd (no-state pages lists e s st S);
    }

module _ (pages lists : Bytes) (s : Sizes) (e : header_of (length pages) lists ≡ Ok s) (kind : ℕ) where
  pub count-bad-kind : kinds ≤ kind → CountPost pages lists kind (CountAnswer.refused BadKind) pages lists
  count-bad-kind h =
      record {
        unopened = λ u. absurd (not-always pages lists s e u);
        illegal = λ k. inr refl;
        bounded = λ k. absurd (omega arith);
        kept = (refl, refl);
        whole = λ t st S. rw (le-leb kinds kind h);
      }

  module _ (l : kind < kinds) where
    count-legal : (r : CountAnswer) → CountBounded s r → ((st : State) → Stands s st pages lists → r ≡ CountAnswer.count (length (st.part kind).names)) → CountPost pages lists kind r pages lists
    count-legal r b f =
        record {
          unopened = λ u. absurd (not-always pages lists s e u);
          illegal = λ h. absurd (omega arith);
          bounded = λ k. rw (sizes-read pages lists s e) b;
          kept = (refl, refl);
          whole = λ t st S.
              let q : t ≡ s = one-sizes pages lists s e t st S in
              let T : Stands s st pages lists = rw q at S in
              f st T ∙ rw (lt-leb kinds kind l);
        }

    -- By the word of the kind's main dictionary.
    pub counted-names : (r : Result ℕ Refusal) → count_in s (word_at lists (count_at (row kind).main_at)) ≡ r
        → CountPost pages lists kind (counted_by r) pages lists
    counted-names (Ok n) h =
        let c = counted-by s _ n h in
        count-legal (CountAnswer.count n) (omega (arith, c.0, c.1)) (λ st S. ap CountAnswer.count (cc (sym h ∙ main-counted S kind l)))
    counted-names (Err why) h = count-legal (CountAnswer.refused why) (uncounted s _ why h).0 (λ st S. absurd (cc (sym h ∙ main-counted S kind l)))
