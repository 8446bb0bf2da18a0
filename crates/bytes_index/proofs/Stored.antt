-- An entry's word, the bytes of the pages that it names, and the comparison of a key with those bytes. Assumes nothing.
use mathlib.Core.Path.{◌≡◌, ◌∙◌, sym, ap, subst}
use mathlib.Core.Logic.{inl, inr}
use mathlib.Core.Bool.{true, false, ◌&&◌}
use mathlib.Core.List.{◌++◌}
use Prim.Native.Nat.{ℕ, ◌+◌, ◌-◌, ◌*◌, ◌≤◌, ◌<◌}
use native.Mathlib.Omega.{arith}
use lib.Dec.{ltb, leb}
use lib.ListN.{length, get_or, take, drop, length-take, length-drop, take-append-drop}
use lib.Seq.{ext_get_or, get_or-take, get_or-drop, get_or-append-add}
use borrow.Author.Tests.{ltb-true, leb-true, lt-ltb, le-leb}
use Rattle.std.specs.Prelude.{Result, Ok, Err}
use Rattle.slices.specs.Bytes.{Bytes}
use Rattle.refusals.specs.declared.Refusal.{Refusal}
use Rattle.slices.proofs.Tests.{Split, split, and_left, and_right, clash}
use Rattle.layout.specs.declared.Sizes.{Sizes}
use Rattle.layout.specs.Sizes.{page_size, page_bytes}
use Rattle.layout.proofs.Ranges.{in-pages}
use Rattle.layout.specs.Fields.{page_of, offset_of, size_of}
use Rattle.refusals.specs.declared.Refusal.TheVariants.{Unopened}
use Rattle.bytes_index.specs.Entries.{address_of, Addresses}
use Rattle.bytes_index.specs.Field.{entry_bytes}
use Rattle.bytes_key.specs.Keys.{front_is, Agree}
use Rattle.bytes_key.proofs.Fronts.{front-facts, front-own}

-- ---- an entry's word

-- It names bytes of one page.
pub record Fielded (s : Sizes) (pages : Bytes) (w : ℕ) (x : Bytes) : Type 0 where
  pub paged : page_of w < s.n
  pub inside : offset_of w + size_of w ≤ page_size s
  pub stored : x ≡ take (size_of w) (drop (address_of s w) pages)

pub field_in : (s : Sizes) (pages : Bytes) (w : ℕ) → page_of w < s.n → offset_of w + size_of w ≤ page_size s
    → entry_bytes s pages w ≡ Ok (take (size_of w) (drop (address_of s w) pages))
unfolding entry_bytes
field_in s pages w p q = rw (lt-ltb (page_of w) s.n p, le-leb (offset_of w + size_of w) (page_size s) q)

pub field_at : (s : Sizes) (pages : Bytes) (w : ℕ) (x : Bytes) → entry_bytes s pages w ≡ Ok x → Fielded s pages w x
unfolding entry_bytes
field_at s pages w x e = go (split (ltb (page_of w) s.n && leb (offset_of w + size_of w) (page_size s)))
  where
    go : Split (ltb (page_of w) s.n && leb (offset_of w + size_of w) (page_size s)) → Fielded s pages w x
    go (inl p) =
        let f : ◌≡◌ {A = Result Bytes Refusal} (Ok (take (size_of w) (drop (address_of s w) pages))) (Ok x) = rw p at e in
        record {
          paged = ltb-true (page_of w) s.n (and_left (ltb (page_of w) s.n) _ p);
          inside = leb-true (offset_of w + size_of w) (page_size s) (and_right (ltb (page_of w) s.n) _ p);
          stored = cc;
        }
    go (inr p) =
        let f : ◌≡◌ {A = Result Bytes Refusal} (Err Unopened) (Ok x) = rw p at e in
        let z : ◌≡◌ {A = ℕ} 0 1 = cc in
        absurd (omega arith)

pub field-bad : (s : Sizes) (pages : Bytes) (w : ℕ) → (page_of w < s.n → offset_of w + size_of w ≤ page_size s → ⊥) → entry_bytes s pages w ≡ Err Unopened
unfolding entry_bytes
field-bad s pages w h = go (split (ltb (page_of w) s.n && leb (offset_of w + size_of w) (page_size s)))
  where
    go : Split (ltb (page_of w) s.n && leb (offset_of w + size_of w) (page_size s)) → entry_bytes s pages w ≡ Err Unopened
    go (inl p) =
        absurd (h (ltb-true (page_of w) s.n (and_left (ltb (page_of w) s.n) _ p))
        (leb-true (offset_of w + size_of w) (page_size s) (and_right (ltb (page_of w) s.n) _ p)))
    go (inr p) = rw p

-- A refused word is called unopened.
pub field-why : (s : Sizes) (pages : Bytes) (w : ℕ) (why : Refusal) → entry_bytes s pages w ≡ Err why → why ≡ Unopened
unfolding entry_bytes
field-why s pages w why e = go (split (ltb (page_of w) s.n && leb (offset_of w + size_of w) (page_size s)))
  where
    go : Split (ltb (page_of w) s.n && leb (offset_of w + size_of w) (page_size s)) → why ≡ Unopened
    go (inl p) =
        let f : ◌≡◌ {A = Result Bytes Refusal} (Ok (take (size_of w) (drop (address_of s w) pages))) (Err why) = rw p at e in
        let z : ◌≡◌ {A = ℕ} 0 1 = cc in
        absurd (omega arith)
    go (inr p) =
        let f : ◌≡◌ {A = Result Bytes Refusal} (Err Unopened) (Err why) = rw p at e in
        cc

-- The pages have the bytes.
pub field-ends : (s : Sizes) (pages : Bytes) (w : ℕ) → page_of w < s.n → offset_of w + size_of w ≤ page_size s → page_bytes s ≤ length pages
    → address_of s w + size_of w ≤ length pages
field-ends s pages w p q l = regroup (page_of w * page_size s) (offset_of w) (size_of w) (length pages) (omega (arith, in-pages s (page_of w) (offset_of w + size_of w) p q))
  where
    regroup : (a b c t : ℕ) → a + (b + c) ≤ t → a + b + c ≤ t
    regroup a b c t l = omega arith

-- ---- the part of the pages

-- The bytes that an entry's word stands for are those of the part.
pub addresses-part : (s : Sizes) (pages : Bytes) (w : ℕ) (key : Bytes) → address_of s w + size_of w ≤ length pages → Addresses s (λ a. get_or pages a 0) w key
    → take (size_of w) (drop (address_of s w) pages) ≡ key
addresses-part s pages w key l t =
    let n : ℕ = size_of w in
    let a : ℕ = address_of s w in
    let z : n ≡ length key = t.sized in
    let e : length (take n (drop a pages)) ≡ n = simp (length-take, length-drop) (omega arith) in
    ext_get_or 0 (take n (drop a pages)) key (e ∙ z) (λ i h. get_or-take n (drop a pages) i 0 (omega arith) ∙ get_or-drop a pages i 0 ∙ t.bytes i (omega arith))

pub part-addresses : (s : Sizes) (pages : Bytes) (w : ℕ) (key : Bytes) → page_of w < s.n → offset_of w + size_of w ≤ page_size s
    → address_of s w + size_of w ≤ length pages → take (size_of w) (drop (address_of s w) pages) ≡ key → Addresses s (λ a. get_or pages a 0) w key
part-addresses s pages w key p q l e =
    let n : ℕ = size_of w in
    let a : ℕ = address_of s w in
    let f : length (take n (drop a pages)) ≡ n = simp (length-take, length-drop) (omega arith) in
    let z : n ≡ length key = sym f ∙ ap length e in
    record {
      paged = p;
      inside = q;
      sized = z;
      bytes = λ k h. sym (get_or-drop a pages k 0) ∙ sym (get_or-take n (drop a pages) k 0 (omega arith)) ∙ ap (λ (x : Bytes). get_or x k 0) e;
    }

-- ---- the key against the entry's bytes as they were read: the front and the rest of the key

module _ (s : Sizes) (pages : Bytes) (w : ℕ) (x front rest key : Bytes) (whole : front ++ rest ≡ key)
    (field : entry_bytes s pages w ≡ Ok x) (fits : page_bytes s ≤ length pages) where
  F : Fielded s pages w x
  F = field_at s pages w x field

  ended : address_of s w + size_of w ≤ length pages
  ended = field-ends s pages w F.paged F.inside fits

  same-part : Addresses s (λ a. get_or pages a 0) w key → x ≡ front ++ rest
  same-part t = F.stored ∙ addresses-part s pages w key ended t ∙ sym whole

  pub not-front : front_is x front (length rest) ≡ false → Addresses s (λ a. get_or pages a 0) w key → ⊥
  not-front e t = clash (ap (λ (y : Bytes). front_is y front (length rest)) (same-part t) ∙ front-own front rest) e

  module _ (e : front_is x front (length rest) ≡ true) where
    sized : length x ≡ length front + length rest
    sized = (front-facts x front (length rest) e).0

    -- The byte of the rest with k bytes left.
    rest-byte : (k : ℕ) → 0 < k → k ≤ length rest → get_or x (length front + (length rest - k)) 0 ≡ get_or x (length x - k) 0
    rest-byte k z l =
        let a : length front + (length rest - k) ≡ length x - k = omega (arith, sized) in
        ap (λ (i : ℕ). get_or x i 0) a

    pub not-all : (Agree x (length x) rest 0 (length rest) → ⊥) → Addresses s (λ a. get_or pages a 0) w key → ⊥
    not-all n t =
        n
        (λ k z l.
        sym (rest-byte k z l) ∙ ap (λ (y : Bytes). get_or y (length front + (length rest - k)) 0) (same-part t) ∙ get_or-append-add front rest (length rest - k) 0)

    pub all-bytes : Agree x (length x) rest 0 (length rest) → Addresses s (λ a. get_or pages a 0) w key
    all-bytes h =
        let n : ℕ = length front in
        let l : length (drop n x) ≡ length rest = simp length-drop (omega (arith, sized)) in
        let b : (i : ℕ) → i < length rest → get_or x (n + i) 0 ≡ get_or rest i 0 =
        (λ i g.
        let z : length rest - (length rest - i) ≡ i = omega arith in
        subst (λ (y : ℕ). get_or x (n + y) 0 ≡ get_or rest y 0) z (rest-byte (length rest - i) (omega arith) (omega arith) ∙ h (length rest - i) (omega arith) (omega arith))) in
        let r : drop n x ≡ rest = ext_get_or 0 (drop n x) rest l (λ i g. get_or-drop n x i 0 ∙ b i (omega arith)) in
        let f : front ≡ take n x = (front-facts x front (length rest) e).1 in
        let p : x ≡ key = sym (take-append-drop n x) ∙ (λ i. sym f i ++ r i) ∙ whole in
        part-addresses s pages w key F.paged F.inside ended (sym F.stored ∙ p)
