-- What a search in a kind's dictionaries says of the state that the memory stands for. Assumes nothing.
use Prim.Native.Nat.{ℕ, ◌<◌}
use mathlib.Core.Path.{◌≡◌, refl, sym, ap, ◌∙◌}
use mathlib.Core.Logic.{inl, inr}
use mathlib.Core.Bool.{true}
use mathlib.Core.List.{List, [], ◌∷◌}
use mathlib.Core.Option.{Option, none, some}
use native.Mathlib.Omega.{arith}
use borrow.Author.Tests.{eqb-true, eq-eqb, ne_eqb}
use lib.Dec.{eqb}
use lib.ListN.{length}
use Rattle.std.specs.Prelude.{Ok, Err}
use Rattle.slices.specs.Bytes.{Bytes, same_bytes}
use Rattle.slices.proofs.Bytes.{bytes-true, bytes_same}
use Rattle.slices.proofs.Tests.{Split, split}
use Rattle.refusals.specs.declared.Refusal.{Refusal}
use Rattle.layout.specs.declared.Sizes.{Sizes}
use Rattle.layout.specs.Sizes.{kinds}
use Rattle.bytes_index.specs.Search.{HoldsEntries, Searched}
use Rattle.bytes_index.specs.declared.Probe.TheVariants.{At, Free}
use Rattle.model.specs.Kinds.{row}
pub use Rattle.model.proofs.Table.{main-below, head-below, head_apart}
use Rattle.model.specs.State.{State, entry_number}
use Rattle.model.specs.Keys.{keys_of}
use Rattle.model.specs.Good.{Different}
use Rattle.model.proofs.Keys.{entry_lt, keys-different}
use Rattle.memory.specs.Stands.{entry_in, Stands}

-- ---- numbers and entries of a list

pub number-of-entry : (i : ℕ) (key : Bytes) (xs : List Bytes) → Different xs → entry_in i xs ≡ some key → entry_number key xs ≡ some i
number-of-entry i key [] d e = cc
number-of-entry i key (x ∷ xs) d e = go (split (eqb i (length xs))) (split (same_bytes key x)) (number-of-entry i key xs d.1)
  where
    go : Split (eqb i (length xs)) → Split (same_bytes key x)
        → (entry_in i xs ≡ some key → entry_number key xs ≡ some i) → entry_number key (x ∷ xs) ≡ some i
    go (inl p) q ih =
        let u : some x ≡ some key = rw p at e in
        let v : x ≡ key = cc in
        let n : i ≡ length xs = eqb-true i (length xs) p in
        rw (v, bytes_same key) (ap some (sym n))
    go (inr p) (inl q) ih =
        let r : entry_number key xs ≡ some i = ih (rw p at e) in
        let u : entry_number key xs ≡ none = rw (bytes-true key x q) d.0 in
        let v : some i ≡ none = sym r ∙ u in cc
    go (inr p) (inr q) ih = rw q (ih (rw p at e))

pub entry-of-number : (i : ℕ) (key : Bytes) (xs : List Bytes) → entry_number key xs ≡ some i → entry_in i xs ≡ some key
entry-of-number i key [] e = cc
entry-of-number i key (x ∷ xs) e = go (split (same_bytes key x)) (entry-of-number i key xs)
  where
    go : Split (same_bytes key x) → (entry_number key xs ≡ some i → entry_in i xs ≡ some key) → entry_in i (x ∷ xs) ≡ some key
    go (inl p) ih =
        let u : some (length xs) ≡ some i = rw p at e in
        let v : i ≡ length xs = cc in
        rw (eq-eqb i (length xs) v) (ap some (sym (bytes-true key x p)))
    go (inr p) ih =
        let u : entry_number key xs ≡ some i = rw p at e in
        let l : i < length xs = entry_lt key xs i u in
        rw (ne_eqb i (length xs) (λ v. omega arith)) (ih u)

-- No number leads to the key, so it has none.
pub number-none : (key : Bytes) (xs : List Bytes) → ((i : ℕ) → entry_in i xs ≡ some key → ⊥) → entry_number key xs ≡ none
number-none key xs f = go (entry_number key xs) refl
  where
    go : (o : Option ℕ) → entry_number key xs ≡ o → o ≡ none
    go none e = refl
    go (some i) e = absurd (f i (entry-of-number i key xs e))

-- ---- the answers of a search

module _ (s : Sizes) (st : State) (pages lists : Bytes) (S : Stands s st pages lists) (k : ℕ) (known : k < kinds) (key : Bytes) where
  main-held : HoldsEntries s (row k).main_at pages lists (S.store.entries (row k).main_at)
  main-held = (S.stored.dict (row k).main_at (main-below k)).holds

  pub main-at : (i : ℕ) → Searched s (row k).main_at pages lists key (Ok (At i)) → entry_number key (keys_of (st.part k).heads (st.part k).names) ≡ some i
  main-at i r =
      number-of-entry i key (keys_of (st.part k).heads (st.part k).names)
      (keys-different s S.good.sizes k _ _ (st.part k) (S.good.part k))
      (sym ((S.parts k known).main i) ∙ r.right (S.store.entries (row k).main_at) main-held)

  pub main-free : (j : ℕ) → Searched s (row k).main_at pages lists key (Ok (Free j)) → entry_number key (keys_of (st.part k).heads (st.part k).names) ≡ none
  main-free j r =
      number-none key (keys_of (st.part k).heads (st.part k).names)
      (λ i e. (r.right (S.store.entries (row k).main_at) main-held).absent i ((S.parts k known).main i ∙ e))

  pub main-bad : {why : Refusal} → Searched s (row k).main_at pages lists key (Err why) → ⊥
  main-bad r = r.right (S.store.entries (row k).main_at) main-held

  module _ (pair : (row k).paired ≡ true) where
    head-held : HoldsEntries s (row k).heads_at pages lists (S.store.entries (row k).heads_at)
    head-held = (S.stored.dict (row k).heads_at (head-below k)).holds

    pub head_at : (i : ℕ) → Searched s (row k).heads_at pages lists key (Ok (At i)) → entry_number key (st.part k).heads ≡ some i
    head_at i r =
        number-of-entry i key (st.part k).heads (S.good.part k).different
        (sym ((S.parts k known).heads pair i) ∙ r.right (S.store.entries (row k).heads_at) head-held)

    pub head-free : (j : ℕ) → Searched s (row k).heads_at pages lists key (Ok (Free j)) → entry_number key (st.part k).heads ≡ none
    head-free j r =
        number-none key (st.part k).heads
        (λ i e. (r.right (S.store.entries (row k).heads_at) head-held).absent i ((S.parts k known).heads pair i ∙ e))

    pub head-bad : {why : Refusal} → Searched s (row k).heads_at pages lists key (Err why) → ⊥
    head-bad r = r.right (S.store.entries (row k).heads_at) head-held
