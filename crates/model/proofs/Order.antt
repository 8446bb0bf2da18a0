-- A fresh name comes in front of all names of the state, across the kinds. Assumes nothing.
use Prim.Native.Nat.{ℕ, zero, suc, ◌<◌, ◌≤◌}
use mathlib.Core.Path.{◌≡◌, refl}
use mathlib.Core.List.{List, [], ◌∷◌}
use native.Mathlib.Omega.{arith}
use native.Mathlib.Decide.{ℕ_discrete}
use borrow.Author.Tests.{eq-eqb, ne_eqb}
use Rattle.slices.specs.Updates.{upd}
use Rattle.layout.specs.declared.Sizes.{Sizes}
use Rattle.layout.specs.Sizes.{kinds}
use Rattle.model.specs.Names.{Name}
use Rattle.model.specs.State.{Stamped, Part, State, stamp_of}
use Rattle.model.specs.Steps.{part_after, extended}
use Rattle.model.specs.Good.{NamesOf, Good}
use Rattle.model.specs.Order.{with_stamp, all_with, ordered_below, ordered}
use Rattle.model.specs.Calls.{Effect, fresh, known, no-effect, fresh_names}
use Rattle.model.proofs.Legal.{legal-kind}
use Rattle.model.proofs.Good.{stamp-more}
use Rattle.model.proofs.Effects.{Did}

-- No name has a stamp that is not below the bound.
pub none_yet : (s : Sizes) (k t u : ℕ) (xs : List Stamped) → NamesOf s k t xs → t ≤ u → with_stamp u xs ≡ []
none_yet s k t u [] o h = refl
none_yet s k t u (x ∷ xs) o h = rw (ne_eqb u x.stamp (λ e. omega (arith, o.3))) (none_yet s k x.stamp u xs o.4 (omega (arith, o.3)))

module _ (s : Sizes) (st : State) (a : Name) (G : Good s st) (legal : a.kind < kinds) where
  abbrev parts : ℕ → Part
  parts = upd st.part a.kind (part_after a (st.part a.kind) (stamp_of st.blocks))

  nothing-at : (k : ℕ) → with_stamp (stamp_of st.blocks) (st.part k).names ≡ []
  nothing-at k = none_yet s k (stamp_of st.blocks) (stamp_of st.blocks) (st.part k).names (G.part k).names (omega arith)

  -- With the new stamp there is the new name alone.
  not_yet : (n : ℕ) → n ≤ a.kind → all_with parts (stamp_of st.blocks) n ≡ []
  not_yet zero h = refl
  not_yet (suc n) h = rw (ne_eqb a.kind n (λ e. omega arith), nothing-at n) (not_yet n (omega arith))

  alone : (n : ℕ) → a.kind < n → all_with parts (stamp_of st.blocks) n ≡ a ∷ []
  alone zero h = absurd (omega arith)
  alone (suc n) h = go (ℕ_discrete a.kind n) (λ l. alone n l)
    where
      go : Dec (a.kind ≡ n) → (a.kind < n → all_with parts (stamp_of st.blocks) n ≡ a ∷ []) → all_with parts (stamp_of st.blocks) (suc n) ≡ a ∷ []
      go (yes e) ih = rw (eq-eqb a.kind n e, eq-eqb (stamp_of st.blocks) (stamp_of st.blocks) refl, nothing-at a.kind, not_yet n (omega arith))
      go (no q) ih = rw (ne_eqb a.kind n q, nothing-at n) (ih (omega arith))

  -- With an older stamp all is as it was.
  older : (t n : ℕ) → t < stamp_of st.blocks → all_with parts t n ≡ all_with st.part t n
  older t zero h = refl
  older t (suc n) h = go (ℕ_discrete a.kind n) (older t n h)
    where
      go : Dec (a.kind ≡ n) → all_with parts t n ≡ all_with st.part t n → all_with parts t (suc n) ≡ all_with st.part t (suc n)
      go (yes e) ih = rw (ih, eq-eqb a.kind n e, ne_eqb t (stamp_of st.blocks) (λ u. omega arith), e)
      go (no q) ih = rw (ne_eqb a.kind n q, ih)

  below : (t : ℕ) → t ≤ stamp_of st.blocks → ordered_below parts t ≡ ordered_below st.part t
  below zero h = refl
  below (suc t) h = rw (older t kinds (omega arith), below t (omega arith))

  front : ordered_below parts (suc (stamp_of st.blocks)) ≡ a ∷ ordered_below st.part (stamp_of st.blocks)
  front = rw (alone kinds legal, below (stamp_of st.blocks) (omega arith))

pub order-by : (s : Sizes) (st z : State) → Good s st → (es : List Effect) (e : Effect) → Did s st e z → (ns : List Name) → ordered st ≡ fresh_names ns es
    → ordered z ≡ fresh_names ns (e ∷ es)
unfolding ordered extended
order-by s st z G es (fresh a n) d ns h = rw (d.3, ← h, stamp-more s st a d.0 G d.1) (front s st a G (legal-kind s a d.1.legal))
order-by s st z G es (known a n) d ns h = rw d.1 h
order-by s st z G es no-effect d ns h = rw d h
