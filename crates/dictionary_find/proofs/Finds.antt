-- Each answer of find is as promised. Assumes nothing.
use Prim.Native.Nat.{ℕ, ◌<◌}
use mathlib.Core.Path.{◌≡◌, refl, ap, ◌∙◌}
use mathlib.Core.Logic.{inl, inr}
use mathlib.Core.Option.{none, some}
use native.Mathlib.Omega.{arith}
use lib.ListN.{length}
use Rattle.std.specs.Prelude.{Result, Ok, Err}
use Rattle.slices.specs.Bytes.{Bytes}
use Rattle.refusals.specs.declared.Refusal.{Refusal}
use Rattle.refusals.specs.declared.Refusal.TheVariants.{Unopened}
use Rattle.layout.specs.declared.Sizes.{Sizes}
use Rattle.header.specs.Header.{header_of}
use Rattle.blocks.specs.declared.LocalId.{LocalId}
use Rattle.blocks.specs.Blocks.{global}
use Rattle.meta_dv_dict.specs.declared.GlobalId.{GlobalId}
use Rattle.meta_dv_dict.specs.Answers.{Globals}
use Rattle.model.specs.Names.{Name}
use Rattle.model.specs.Answers.{FindAnswer}
use Rattle.model.specs.State.{State, local_of, number_of}
use Rattle.model.specs.Steps.{checks, find_by}
use Rattle.model.proofs.Names.{local-lt}
use Rattle.memory.specs.Stands.{Stands}
use Rattle.memory.specs.Promises.{FindBounded, FindPost}
use Rattle.memory.proofs.Counts.{next-count}
use Rattle.memory.proofs.Headers.{header-refused, no-state, sizes-read, not-always, one-sizes}

pub find-unopened : {why : Refusal} (pages lists : Bytes) (a : Name) → header_of (length pages) lists ≡ Err why → FindPost pages lists a (FindAnswer.refused why) pages lists
find-unopened {why} pages lists a e =
    let u : why ≡ Unopened = header-refused (length pages) lists e in
    record {
      unopened = λ always. ap FindAnswer.refused u;
      illegal = λ w h. inl (ap FindAnswer.refused u);
      bounded = λ c. u;
      kept = (refl, refl);
      whole = λ s st S. absurd (no-state pages lists e s st S);
    }

module _ (pages lists : Bytes) (s : Sizes) (e : header_of (length pages) lists ≡ Ok s) (a : Name) where
  pub find-illegal : (why : Refusal) → checks s a ≡ some why → FindPost pages lists a (FindAnswer.refused why) pages lists
  find-illegal why i =
      record {
        unopened = λ u. absurd (not-always pages lists s e u);
        illegal = λ w h.
            let j : checks s a ≡ some w = rw (sizes-read pages lists s e) at h in
            let v : why ≡ w = cc in inr (ap FindAnswer.refused v);
        bounded = λ c.
            let j : checks s a ≡ none = rw (sizes-read pages lists s e) at c in
            let z : ◌≡◌ {A = ℕ} 0 1 = cc in absurd (omega arith);
        kept = (refl, refl);
        whole = λ t st S. rw (one-sizes pages lists s e t st S, i);
      }

  module _ (legal : checks s a ≡ none) where
    -- Any answer in bounds that is right of each state.
    find-legal : (r : FindAnswer) → FindBounded s r → ((st : State) → Stands s st pages lists → r ≡ find_by (number_of s st a)) → FindPost pages lists a r pages lists
    find-legal r b f =
        record {
          unopened = λ u. absurd (not-always pages lists s e u);
          illegal = λ w h.
              let j : checks s a ≡ some w = rw (sizes-read pages lists s e) at h in
              let z : ◌≡◌ {A = ℕ} 0 1 = cc in absurd (omega arith);
          bounded = λ c. rw (sizes-read pages lists s e) b;
          kept = (refl, refl);
          whole = λ t st S.
              let q : t ≡ s = one-sizes pages lists s e t st S in
              let c : checks t a ≡ none = rw q legal in
              let T : Stands s st pages lists = rw q at S in
              f st T ∙ rw (q, legal);
        }

    -- What the search says of each state.
    module _ (x : LocalId) (h : (st : State) → Stands s st pages lists → local_of a (st.part a.kind).names ≡ some x.0) where
      given : (st : State) → Stands s st pages lists → x.0 < st.blocks.next a.kind
      given st S = omega (arith, local-lt a (st.part a.kind).names x.0 (h st S), next-count S a.kind)

      pub find-known : (y : GlobalId) → Globals s lists a.kind x.0 (Ok y) → FindPost pages lists a (FindAnswer.known y.0) pages lists
      unfolding number_of
      find-known y g =
          find-legal (FindAnswer.known y.0) g.range
          (λ st S.
          let u : ◌≡◌ {A = Result GlobalId Refusal} (Ok y) (Ok (record { 0 = global s.w st.blocks a.kind x.0 })) = g.right st.blocks S.blocked (given st S) in
          let v : y ≡ record { 0 = global s.w st.blocks a.kind x.0 } = cc in
          rw (h st S) (ap (λ (n : GlobalId). FindAnswer.known n.0) v))

      pub find-bad-number : {why : Refusal} → Globals s lists a.kind x.0 (Err why) → FindPost pages lists a (FindAnswer.refused why) pages lists
      find-bad-number {why} g =
          find-legal (FindAnswer.refused why) g.range
          (λ st S.
          let u : ◌≡◌ {A = Result GlobalId Refusal} (Err why) (Ok (record { 0 = global s.w st.blocks a.kind x.0 })) = g.right st.blocks S.blocked (given st S) in
          let z : ◌≡◌ {A = ℕ} 0 1 = cc in absurd (omega arith))

    pub find_none : ((st : State) → Stands s st pages lists → local_of a (st.part a.kind).names ≡ none) → FindPost pages lists a FindAnswer.absent pages lists
    unfolding number_of
    find_none h = find-legal FindAnswer.absent tt (λ st S. rw (h st S))

    pub find-bad : {why : Refusal} → why ≡ Unopened → ((st : State) → Stands s st pages lists → ⊥) → FindPost pages lists a (FindAnswer.refused why) pages lists
    find-bad {why} u h = find-legal (FindAnswer.refused why) u (λ st S. absurd (h st S))
