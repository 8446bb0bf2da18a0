-- Looking a name up in the dictionaries of a good part finds its local number; stored keys stay. Assumes nothing.
use Prim.Native.Nat.{ℕ, suc, ◌<◌, ◌≤◌}
use mathlib.Core.Path.{◌≡◌, refl, sym, ap, subst, ◌∙◌}
use mathlib.Core.Logic.{inl, inr}
use mathlib.Core.Bool.{true, false, false≢true}
use mathlib.Core.List.{List, [], ◌∷◌, ◌++◌}
use mathlib.Core.Option.{none, some}
use native.Mathlib.Omega.{arith}
use lib.ListN.{length}
use Rattle.slices.specs.Bytes.{Bytes, same_bytes}
use Rattle.slices.proofs.Bytes.{bytes-true, bytes_same}
use Rattle.slices.proofs.Tests.{Split, split, and_left, and_right, same_test}
use Rattle.layout.specs.declared.Sizes.{Sizes}
use Rattle.layout.specs.Sizes.{InRange}
use Rattle.ranked_pair_dictionary.specs.FrequentId.{fid}
use Rattle.ranked_pair_dictionary.proofs.Laws.{fid-same}
use Rattle.model.specs.Names.{Name, same_name}
use Rattle.model.specs.Kinds.{row}
use Rattle.model.specs.State.{Stamped, Part, local_of, entry_number}
use Rattle.model.specs.Steps.{checks, name_head, new_head, key_of, part_after}
use Rattle.model.specs.Keys.{keys_of, looked_up}
use Rattle.model.specs.Good.{NamesOf, Different, Covered, GoodPart}
use Rattle.model.proofs.Names.{name-true, name-same}
use Rattle.model.proofs.Forms.{names_same}
use Rattle.model.proofs.Parts.{is-none, is_some}

-- ---- one dictionary

pub entry_lt : (b : Bytes) (xs : List Bytes) (f : ℕ) → entry_number b xs ≡ some f → f < length xs
entry_lt b [] f e = cc
entry_lt b (x ∷ xs) f e = go (split (same_bytes b x)) (entry_lt b xs f)
  where
    go : Split (same_bytes b x) → (entry_number b xs ≡ some f → f < length xs) → f < length (x ∷ xs)
    go (inl p) ih =
        let q : some (length xs) ≡ some f = rw p at e in
        let z : length xs ≡ f = cc in omega arith
    go (inr p) ih = let h : f < length xs = ih (rw p at e) in omega arith

pub entry-same : (b c : Bytes) (xs : List Bytes) (f : ℕ) → entry_number b xs ≡ some f → entry_number c xs ≡ some f → b ≡ c
entry-same b c [] f d e = cc
entry-same b c (x ∷ xs) f d e = go (split (same_bytes b x)) (split (same_bytes c x)) (entry-same b c xs f)
  where
    go : Split (same_bytes b x) → Split (same_bytes c x)
        → (entry_number b xs ≡ some f → entry_number c xs ≡ some f → b ≡ c) → b ≡ c
    go (inl p) (inl q) ih = bytes-true b x p ∙ sym (bytes-true c x q)
    go (inl p) (inr q) ih =
        let u : some (length xs) ≡ some f = rw p at d in
        let z : length xs ≡ f = cc in
        absurd (omega (arith, entry_lt c xs f (rw q at e)))
    go (inr p) (inl q) ih =
        let u : some (length xs) ≡ some f = rw q at e in
        let z : length xs ≡ f = cc in
        absurd (omega (arith, entry_lt b xs f (rw p at d)))
    go (inr p) (inr q) ih = ih (rw p at d) (rw q at e)

-- ---- equal keys, equal names

-- The head of the name is stored, if its kind has heads.
abbrev pub Known : List Bytes → Name → Type 0
Known hs a = (row a.kind).paired ≡ true → (f : ℕ) × (entry_number (name_head a) hs ≡ some f)

-- There are as many keys as names.
pub length-keys : (hs : List Bytes) (xs : List Stamped) → length (keys_of hs xs) ≡ length xs
length-keys hs [] = refl
length-keys hs (x ∷ xs) = ap suc (length-keys hs xs)

module _ (s : Sizes) (R : InRange s) (hs : List Bytes) (few : length hs ≤ s.e) where
  pub key-same : (a b : Name) → checks s a ≡ none → checks s b ≡ none → a.kind ≡ b.kind → Known hs a → Known hs b → key_of hs a ≡ key_of hs b → a ≡ b
  key-same a b p q k h g e = go (split (row a.kind).paired)
    where
      go : Split (row a.kind).paired → a ≡ b
      go (inl t) =
          let t' : (row b.kind).paired ≡ true = rw k at t in
          let x = h t in
          let y = g t' in
          let d : fid x.0 ++ (row a.kind).rest a ≡ fid y.0 ++ (row b.kind).rest b = rw (t, t', x.1, y.1) at e in
          let r = fid-same x.0 y.0 ((row a.kind).rest a) ((row b.kind).rest b)
          (omega (arith, entry_lt (name_head a) hs x.0 x.1, R.e.1)) (omega (arith, entry_lt (name_head b) hs y.0 y.1, R.e.1)) d in
          let i : entry_number (name_head b) hs ≡ some x.0 = y.1 ∙ ap some (sym r.0) in
          let j : name_head a ≡ name_head b = entry-same (name_head a) (name_head b) hs x.0 x.1 i in
          names_same s a b p q k (λ u. j ∙ ap (λ (n : ℕ). (row n).head b) (sym k)) (r.1 ∙ ap (λ (n : ℕ). (row n).rest b) (sym k))
      go (inr t) =
          let t' : (row b.kind).paired ≡ false = rw k at t in
          let d : (row a.kind).rest a ≡ (row b.kind).rest b = rw (t, t') at e in
          names_same s a b p q k (λ u. let z : true ≡ false = sym u ∙ t in absurd (false≢true (sym z))) (d ∙ ap (λ (n : ℕ). (row n).rest b) (sym k))

  -- The key is found where the name is.
  pub found-by-key : (k t : ℕ) (a : Name) (xs : List Stamped) → a.kind ≡ k → checks s a ≡ none → Known hs a → NamesOf s k t xs
      → ((row k).paired ≡ true → Covered hs xs)
      → local_of a xs ≡ entry_number (key_of hs a) (keys_of hs xs)
  found-by-key k t a [] z p h o c = refl
  found-by-key k t a (x ∷ xs) z p h o c =
      let m : same_name a x.name ≡ same_bytes (key_of hs a) (key_of hs x.name) =
      same_test _ _ (λ e. rw (name-true a x.name e) (bytes_same (key_of hs x.name))) (λ e. rw (back (bytes-true _ _ e)) (name-same x.name)) in
      rw (m, length-keys hs xs, found-by-key k x.stamp a xs z p h o.4 (λ e. (c e).1))
    where
      back : key_of hs a ≡ key_of hs x.name → a ≡ x.name
      back e = key-same a x.name p o.0 (z ∙ sym o.1) h (λ u. (c (rw o.1 at u)).0) e

  different-keys : (k t : ℕ) (xs : List Stamped) → NamesOf s k t xs → ((row k).paired ≡ true → Covered hs xs) → Different (keys_of hs xs)
  different-keys k t [] o c = tt
  different-keys k t (x ∷ xs) o c = (
    sym (found-by-key k x.stamp x.name xs o.1 o.0 (λ u. (c (rw o.1 at u)).0) o.4 (λ u. (c u).1)) ∙ o.2,
    different-keys k x.stamp xs o.4 (λ u. (c u).1),
  )

-- The main entries are pairwise different.
pub keys-different : (s : Sizes) → InRange s → (k t n : ℕ) (pt : Part) → GoodPart s k t n pt → Different (keys_of pt.heads pt.names)
keys-different s R k t n pt G = different-keys s R pt.heads G.few_heads k t pt.names G.names G.covered

-- A name whose head is not stored is not there.
not_there : (a : Name) (hs : List Bytes) (xs : List Stamped) → Covered hs xs → entry_number (name_head a) hs ≡ none → local_of a xs ≡ none
not_there a hs [] c e = refl
not_there a hs (x ∷ xs) c e = go (split (same_name a x.name)) (not_there a hs xs c.1 e)
  where
    go : Split (same_name a x.name) → local_of a xs ≡ none → local_of a (x ∷ xs) ≡ none
    go (inl p) ih =
        let u : entry_number (name_head x.name) hs ≡ none = rw (← name-true a x.name p) e in
        let v : none ≡ some c.0.0 = sym u ∙ c.0.1 in cc
    go (inr p) ih = rw p ih

module _ (s : Sizes) (R : InRange s) (a : Name) (t n : ℕ) (pt : Part) (G : GoodPart s a.kind t n pt) (legal : checks s a ≡ none) where
  pub looked-up : local_of a pt.names ≡ looked_up a pt
  looked-up = go (split (new_head a pt))
    where
      go : Split (new_head a pt) → local_of a pt.names ≡ looked_up a pt
      go (inl p) = rw p (not_there a pt.heads pt.names (G.covered (and_left (row a.kind).paired _ p)) (is-none _ (and_right (row a.kind).paired _ p)))
      go (inr p) = rw p (found-by-key s R pt.heads G.few_heads a.kind t a pt.names refl legal
          (λ e. is_some (entry_number (name_head a) pt.heads) (rw e at p)) G.names G.covered)

-- ---- an add puts one key in front, and the stored ones stay

key-stays : (h : Bytes) (hs : List Bytes) (b : Name) (f : ℕ) → entry_number h hs ≡ none → entry_number (name_head b) hs ≡ some f → key_of (h ∷ hs) b ≡ key_of hs b
key-stays h hs b f e c = go (split (same_bytes (name_head b) h))
  where
    go : Split (same_bytes (name_head b) h) → key_of (h ∷ hs) b ≡ key_of hs b
    go (inl p) =
        let u : entry_number h hs ≡ some f = rw (← bytes-true (name_head b) h p) c in
        let v : none ≡ some f = sym e ∙ u in cc
    go (inr p) = rw (p, c)

keys-stay : (h : Bytes) (hs : List Bytes) (xs : List Stamped) → entry_number h hs ≡ none → Covered hs xs → keys_of (h ∷ hs) xs ≡ keys_of hs xs
keys-stay h hs [] e c = refl
keys-stay h hs (x ∷ xs) e c = rw (key-stays h hs x.name c.0.0 e c.0.1, keys-stay h hs xs e c.1)

pub keys-after : (s : Sizes) (a : Name) (t n : ℕ) (pt : Part) → GoodPart s a.kind t n pt
    → keys_of (part_after a pt t).heads (part_after a pt t).names ≡ key_of pt.heads a ∷ keys_of pt.heads pt.names
keys-after s a t n pt G = go (split (new_head a pt))
  where
    go : Split (new_head a pt) → keys_of (part_after a pt t).heads (part_after a pt t).names ≡ key_of pt.heads a ∷ keys_of pt.heads pt.names
    go (inr p) =
        let heads : (part_after a pt t).heads ≡ pt.heads = rw p in
        subst (λ (hs : List Bytes). keys_of hs (part_after a pt t).names ≡ key_of pt.heads a ∷ keys_of pt.heads pt.names) (sym heads) refl
    go (inl p) =
        let pair : (row a.kind).paired ≡ true = and_left (row a.kind).paired _ p in
        let e : entry_number (name_head a) pt.heads ≡ none = is-none _ (and_right (row a.kind).paired _ p) in
        let k : key_of (name_head a ∷ pt.heads) a ≡ key_of pt.heads a = rw (bytes_same (name_head a), e) in
        let heads : (part_after a pt t).heads ≡ name_head a ∷ pt.heads = rw p in
        let rest : keys_of (name_head a ∷ pt.heads) pt.names ≡ keys_of pt.heads pt.names = keys-stay (name_head a) pt.heads pt.names e (G.covered pair) in
        let both : key_of (name_head a ∷ pt.heads) a ∷ keys_of (name_head a ∷ pt.heads) pt.names ≡ key_of pt.heads a ∷ keys_of pt.heads pt.names = rw (k, rest) in
        subst (λ (hs : List Bytes). keys_of hs (part_after a pt t).names ≡ key_of pt.heads a ∷ keys_of pt.heads pt.names) (sym heads) both
