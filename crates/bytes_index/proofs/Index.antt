-- What a search answers in memory that holds a dictionary's entries. Assumes nothing.
use mathlib.Core.Path.{◌≡◌, ◌∙◌, sym, ap, subst}
use mathlib.Core.Logic.{◌≢◌}
use mathlib.Core.Option.{some}
use Prim.Native.Nat.{ℕ, ◌+◌, ◌-◌, ◌*◌, ◌/◌, ◌%◌, ◌^◌, ◌≤◌, ◌<◌}
use native.Mathlib.Omega.{arith}
use native.Mathlib.Decide.{dec_lt}
use lib.ListN.{length}
use lib.Seq.{ext_get_or}
use Rattle.slices.specs.Bytes.{Bytes}
use Rattle.fnv.specs.Fnv.{fnv_of}
use Rattle.fnv.proofs.Laws.{fnv-lt}
use Rattle.layout.specs.declared.Sizes.{Sizes}
use Rattle.layout.specs.Sizes.{page_size}
use Rattle.layout.specs.Fields.{page_of, offset_of, size_of, place_word, named_by, top_of}
use Rattle.bytes_index.specs.Place.{place_after}
use Rattle.bytes_index.specs.Entries.{Entries, used, Addresses, Met, FreeAt, Holds, Misses}
use Rattle.bytes_index.proofs.Place.{place-lt, place-onto}
use Rattle.bytes_index.proofs.Filled.{filled-le, filled-all}

-- An entry word stands for one byte string.
pub addresses-once : (s : Sizes) (B : ℕ → ℕ) (w : ℕ) (a b : Bytes) → Addresses s B w a → Addresses s B w b → a ≡ b
addresses-once s B w a b p q =
    let e : length a ≡ length b = sym p.sized ∙ q.sized in
    ext_get_or 0 a b e (λ i l. sym (p.bytes i l) ∙ q.bytes i (omega arith))

-- What a place has of its entry.
pub place-named : (i h : ℕ) → i < 1048576 → named_by (place_word i h) ≡ i + 1
place-named i h l = go (h / 2097152)
  where
    go : (x : ℕ) → (i + 1 + 2097152 * x) % 2097152 ≡ i + 1
    go x = omega arith

pub place-top : (i h : ℕ) → i < 1048576 → top_of (place_word i h) ≡ top_of h
place-top i h l = go (h / 2097152)
  where
    go : (x : ℕ) → (i + 1 + 2097152 * x) / 2097152 ≡ x
    go x = omega arith

pub place-fits : (i : ℕ) (key : Bytes) → i < 1048576 → place_word i (fnv_of key) < 2 ^ 32
place-fits i key l = go (fnv_of key) (fnv-lt key)
  where
    go : (h : ℕ) → h < 2 ^ 32 → i + 1 + 2097152 * (h / 2097152) < 2 ^ 32
    go h f = omega arith

-- A place that the search went past is filled, and its entry is not the key: either its hash has other top bits, or its bytes are others.
abbrev pub PlacePassed : Sizes → (ℕ → ℕ) → (ℕ → ℕ) → Bytes → ℕ → Type 0
PlacePassed s B W key q = (q ≢ 0) × (top_of q ≡ top_of (fnv_of key) → Addresses s B (W (named_by q - 1)) key → ⊥)

-- What the code read of a place, as `PlacePassed` of the step.
pub place-passed : (s : Sizes) (B W Q : ℕ → ℕ) (key : Bytes) (m h t j q : ℕ) → place_after m h t ≡ j → q ≡ Q j → q ≢ 0
    → (top_of q ≡ top_of (fnv_of key) → Addresses s B (W (named_by q - 1)) key → ⊥) → PlacePassed s B W key (Q (place_after m h t))
place-passed s B W Q key m h t j q p r z n =
    let f : q ≡ Q (place_after m h t) = rw p r in
    subst (PlacePassed s B W key) f (z, n)

-- What the code read of a place with the key's top bits: the search meets the entry that it names.
pub meets : (s : Sizes) (B W Q : ℕ → ℕ) (key : Bytes) (m t j q : ℕ) → t < m → place_after m (fnv_of key) t ≡ j → q ≡ Q j
    → top_of q ≡ top_of (fnv_of key) → named_by q ≢ 0 → ((k : ℕ) → k < t → PlacePassed s B W key (Q (place_after m (fnv_of key) k))) → Met Q m (fnv_of key) (named_by q - 1)
meets s B W Q key m t j q l p r e z f = record { step = t; near = l; there = ap Q p ∙ sym r ∙ go (fnv_of key / 2097152) e; full = λ k g. (f k g).0 }
  where
    go : (x : ℕ) → q / 2097152 ≡ x → q ≡ q % 2097152 - 1 + 1 + 2097152 * x
    go x d = omega (arith, z)

module _ (s : Sizes) (B W Q : ℕ → ℕ) (es : Entries) (H : Holds s B W Q es) (few : s.e ≤ 1048576) where
  -- A filled place names an entry in use, whose word stands for it.
  pub record Named (j : ℕ) : Type 0 where
    pub key : Bytes
    pub in_use : es (named_by (Q j) - 1) ≡ some key
    pub filled : 0 < named_by (Q j)
    pub below : named_by (Q j) ≤ s.e
    pub addressed : Addresses s B (W (named_by (Q j) - 1)) key

  pub named : (j : ℕ) → j < 2 * s.e → Q j ≢ 0 → Named j
  named j l z =
      let k = H.names j l z in
      let e = H.entry k.0 k.1 k.2 in
      let n : named_by (Q j) ≡ k.0 + 1 = ap named_by k.3 ∙ place-named k.0 (fnv_of k.1) (omega (arith, e.0)) in
      let i : k.0 ≡ named_by (Q j) - 1 = omega (arith, n) in
      record {
        key = k.1;
        in_use = subst (λ (x : ℕ). es x ≡ some k.1) i k.2;
        filled = omega (arith, n);
        below = omega (arith, n, e.0);
        addressed = subst (λ (x : ℕ). Addresses s B (W x) k.1) i e.1;
      }

  -- The entry that a search meets, if its bytes are the key.
  pub hit : (i : ℕ) (key : Bytes) → i < s.e → Met Q (2 * s.e) (fnv_of key) i → Addresses s B (W i) key → es i ≡ some key
  hit i key l M t =
      let k = named (place_after (2 * s.e) (fnv_of key) M.step) (place-lt (2 * s.e) (fnv_of key) M.step (omega arith)) (λ z. omega (arith, M.there, z)) in
      let n : named_by (Q (place_after (2 * s.e) (fnv_of key) M.step)) - 1 ≡ i = omega (arith, ap named_by M.there, place-named i (fnv_of key) (omega arith)) in
      let e : k.key ≡ key = addresses-once s B (W i) k.key key (subst (λ (x : ℕ). Addresses s B (W x) k.key) n k.addressed) t in
      sym (ap es n) ∙ k.in_use ∙ ap some e

  -- A filled place names an entry, and none past the last.
  pub never-nothing : (j : ℕ) → j < 2 * s.e → Q j ≢ 0 → named_by (Q j) ≡ 0 → ⊥
  never-nothing j l f z = omega (arith, (named j l f).filled)

  pub never-past : (j : ℕ) → j < 2 * s.e → Q j ≢ 0 → s.e < named_by (Q j) → ⊥
  never-past j l f z = omega (arith, (named j l f).below)

  -- An entry that the index names lies in one page.
  pub never-out : (j : ℕ) → j < 2 * s.e → Q j ≢ 0
      → (page_of (W (named_by (Q j) - 1)) < s.n) × (offset_of (W (named_by (Q j) - 1)) + size_of (W (named_by (Q j) - 1)) ≤ page_size s)
  never-out j l z = let k = named j l z in (k.addressed.paged, k.addressed.inside)

  -- There is always an empty place: twice as many places as entries.
  pub never-full : 1 ≤ s.e → (h : ℕ) → ((k : ℕ) → k < 2 * s.e → Q (place_after (2 * s.e) h k) ≢ 0) → ⊥
  never-full p h f =
      omega (
        arith,
        H.count,
        filled-le (λ i. used (es i)) s.e,
        filled-all Q (2 * s.e) (λ j l. let v = place-onto (2 * s.e) h j l in subst (λ (x : ℕ). Q x ≢ 0) v.here (f v.step v.near)),
      )

  -- The first empty place, with no entry that is the key before it: there is none anywhere.
  pub missed : (key : Bytes) (j : ℕ) → (F : FreeAt Q (2 * s.e) (fnv_of key) j)
      → ((k : ℕ) → k < F.step → PlacePassed s B W key (Q (place_after (2 * s.e) (fnv_of key) k))) → Misses s Q es key j
  missed key j F p = record { absent = none_is; free = F }
    where
      z : Q (place_after (2 * s.e) (fnv_of key) F.step) ≡ 0
      z = ap Q F.here ∙ F.empty

      none_is : (i : ℕ) → es i ≡ some key → ⊥
      none_is i q = go (dec_lt M.step F.step) (dec_lt F.step M.step)
        where
          M : Met Q (2 * s.e) (fnv_of key) i
          M = H.met i key q

          S : Addresses s B (W i) key
          S = (H.entry i key q).1

          low : i < 1048576
          low = omega (arith, (H.entry i key q).0)

          go : Dec (M.step < F.step) → Dec (F.step < M.step) → ⊥
          go (yes a) b =
              let f : i ≡ named_by (Q (place_after (2 * s.e) (fnv_of key) M.step)) - 1 = omega (arith, ap named_by M.there, place-named i (fnv_of key) low) in
              (p M.step a).1 (ap top_of M.there ∙ place-top i (fnv_of key) low) (subst (λ (x : ℕ). Addresses s B (W x) key) f S)
          go (no a) (yes b) = M.full F.step b z
          go (no a) (no b) =
              let f : M.step ≡ F.step = omega arith in
              let c : Q (place_after (2 * s.e) (fnv_of key) F.step) ≡ place_word i (fnv_of key) =
              subst (λ (x : ℕ). Q (place_after (2 * s.e) (fnv_of key) x) ≡ place_word i (fnv_of key)) f M.there in
              omega (arith, z)
