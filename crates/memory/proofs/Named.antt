-- What the dictionaries of a kind hold of the name that has a local number, in memory that stands for a state. Assumes nothing.
use Prim.Native.Nat.{ℕ, ◌<◌}
use mathlib.Core.Path.{◌≡◌, ◌∙◌}
use mathlib.Core.Logic.{inl, inr}
use mathlib.Core.Bool.{true, false}
use mathlib.Core.List.{List, [], ◌∷◌}
use mathlib.Core.Option.{none, some}
use lib.Dec.{eqb}
use lib.ListN.{length}
use Rattle.slices.specs.Bytes.{Bytes}
use Rattle.slices.proofs.Tests.{Split, split}
use Rattle.layout.specs.declared.Sizes.{Sizes}
use Rattle.layout.specs.Sizes.{kinds}
use Rattle.model.specs.Names.{Name}
use Rattle.model.specs.Kinds.{row}
use Rattle.model.specs.State.{Stamped, State, name_in, entry_number}
use Rattle.model.specs.Steps.{checks, name_head, new_head, key_of}
use Rattle.model.specs.Keys.{keys_of}
use Rattle.model.specs.Good.{NamesOf, Covered}
use Rattle.model.proofs.Keys.{length-keys}
use Rattle.memory.specs.Stands.{entry_in, Stands}
use Rattle.memory.proofs.Probes.{entry-of-number}

-- ---- in a list of names

named-key : (i : ℕ) (a : Name) (hs : List Bytes) (xs : List Stamped) → name_in i xs ≡ some a → entry_in i (keys_of hs xs) ≡ some (key_of hs a)
named-key i a hs [] e = cc
named-key i a hs (x ∷ xs) e = go (split (eqb i (length xs))) (named-key i a hs xs)
  where
    go : Split (eqb i (length xs)) → (name_in i xs ≡ some a → entry_in i (keys_of hs xs) ≡ some (key_of hs a)) → entry_in i (keys_of hs (x ∷ xs)) ≡ some (key_of hs a)
    go (inl p) ih =
        let u : some x.name ≡ some a = rw p at e in
        let v : x.name ≡ a = cc in
        rw (length-keys hs xs, p, v)
    go (inr p) ih = rw (length-keys hs xs, p) (ih (rw p at e))

unnamed-key : (i : ℕ) (hs : List Bytes) (xs : List Stamped) → name_in i xs ≡ none → entry_in i (keys_of hs xs) ≡ none
unnamed-key i hs [] e = cc
unnamed-key i hs (x ∷ xs) e = go (split (eqb i (length xs))) (unnamed-key i hs xs)
  where
    go : Split (eqb i (length xs)) → (name_in i xs ≡ none → entry_in i (keys_of hs xs) ≡ none) → entry_in i (keys_of hs (x ∷ xs)) ≡ none
    go (inl p) ih =
        let u : some x.name ≡ none = rw p at e in cc
    go (inr p) ih = rw (length-keys hs xs, p) (ih (rw p at e))

named-checked : (s : Sizes) (k t i : ℕ) (a : Name) (xs : List Stamped) → NamesOf s k t xs → name_in i xs ≡ some a → (checks s a ≡ none) × (a.kind ≡ k)
named-checked s k t i a [] o e = cc
named-checked s k t i a (x ∷ xs) o e = go (split (eqb i (length xs))) (named-checked s k x.stamp i a xs o.4)
  where
    go : Split (eqb i (length xs)) → (name_in i xs ≡ some a → (checks s a ≡ none) × (a.kind ≡ k)) → (checks s a ≡ none) × (a.kind ≡ k)
    go (inl p) ih =
        let u : some x.name ≡ some a = rw p at e in
        let v : x.name ≡ a = cc in
        rw (← v) (o.0, o.1)
    go (inr p) ih = ih (rw p at e)

named-head : (i : ℕ) (a : Name) (hs : List Bytes) (xs : List Stamped) → Covered hs xs → name_in i xs ≡ some a → (f : ℕ) × (entry_number (name_head a) hs ≡ some f)
named-head i a hs [] c e = cc
named-head i a hs (x ∷ xs) c e = go (split (eqb i (length xs))) (named-head i a hs xs c.1)
  where
    go : Split (eqb i (length xs)) → (name_in i xs ≡ some a → (f : ℕ) × (entry_number (name_head a) hs ≡ some f)) → (f : ℕ) × (entry_number (name_head a) hs ≡ some f)
    go (inl p) ih =
        let u : some x.name ≡ some a = rw p at e in
        let v : x.name ≡ a = cc in
        rw (← v) c.0
    go (inr p) ih = ih (rw p at e)

-- ---- in memory

module _ (s : Sizes) (st : State) (pages lists : Bytes) (S : Stands s st pages lists) (k : ℕ) (known : k < kinds) where
  -- The entry of a local number is its name's key, and there is none where it has no name.
  pub named-entry : (i : ℕ) (a : Name) → name_in i (st.part k).names ≡ some a → S.store.entries (row k).main_at i ≡ some (key_of (st.part k).heads a)
  named-entry i a e = (S.parts k known).main i ∙ named-key i a (st.part k).heads (st.part k).names e

  pub unnamed-entry : (i : ℕ) → name_in i (st.part k).names ≡ none → S.store.entries (row k).main_at i ≡ none
  unnamed-entry i e = (S.parts k known).main i ∙ unnamed-key i (st.part k).heads (st.part k).names e

  pub named-legal : (i : ℕ) (a : Name) → name_in i (st.part k).names ≡ some a
      → (checks s a ≡ none) × (a.kind ≡ k) × (new_head a (st.part k) ≡ false)
  named-legal i a e =
      let l = named-checked s k _ i a (st.part k).names (S.good.part k).names e in
      (l.0, l.1, go (split (row a.kind).paired) l.1)
    where
      go : Split (row a.kind).paired → a.kind ≡ k → new_head a (st.part k) ≡ false
      go (inl p) q = rw (p, (named-head i a (st.part k).heads (st.part k).names ((S.good.part k).covered (rw q at p)) e).1)
      go (inr p) q = rw p

  -- A head is the entry of its number.
  pub head-entry : (row k).paired ≡ true → (f : ℕ) (h : Bytes) → entry_number h (st.part k).heads ≡ some f → S.store.entries (row k).heads_at f ≡ some h
  head-entry pair f h e = (S.parts k known).heads pair f ∙ entry-of-number f h (st.part k).heads e
