-- Where an entry's word says that its bytes lie, and the bytes there. Assumes nothing.
use mathlib.Core.Path.{◌≡◌, ◌∙◌, sym, ap}
use mathlib.Core.Logic.{inl, inr}
use mathlib.Core.Bool.{◌&&◌}
use Prim.Native.Nat.{ℕ, ◌+◌, ◌≤◌, ◌<◌}
use native.Mathlib.Omega.{arith}
use lib.Dec.{ltb, leb}
use borrow.Author.Tests.{ltb-true, leb-true, lt-ltb, le-leb}
use Rattle.std.specs.Prelude.{Result, Ok, Err}
use Rattle.slices.specs.Bytes.{Bytes}
use Rattle.slices.proofs.Tests.{Split, split, and_left, and_right}
use Rattle.refusals.specs.declared.Refusal.{Refusal}
use Rattle.refusals.specs.declared.Refusal.TheVariants.{Unopened}
use Rattle.layout.specs.declared.Sizes.{Sizes}
use Rattle.layout.specs.Sizes.{page_size}
use Rattle.layout.specs.Fields.{page_of, offset_of, size_of}
use Rattle.bytes_index.specs.declared.Span.{Span}
use Rattle.bytes_index.specs.Entries.{address_of}
use Rattle.bytes_index.specs.Field.{entry_bytes, entry_field, bytes_spanned}

-- The word names this part of one page.
pub record Spanned (s : Sizes) (w : ℕ) (x : Span) : Type 0 where
  pub paged : page_of w < s.n
  pub inside : offset_of w + size_of w ≤ page_size s
  pub starts : x.at ≡ address_of s w
  pub sized : x.len ≡ size_of w

pub span_in : (s : Sizes) (w : ℕ) → page_of w < s.n → offset_of w + size_of w ≤ page_size s
    → entry_field s w ≡ Ok (record { at = address_of s w; len = size_of w })
unfolding entry_field
span_in s w p q = rw (lt-ltb (page_of w) s.n p, le-leb (offset_of w + size_of w) (page_size s) q)

pub span_at : (s : Sizes) (w : ℕ) (x : Span) → entry_field s w ≡ Ok x → Spanned s w x
unfolding entry_field
span_at s w x e = go (split (ltb (page_of w) s.n && leb (offset_of w + size_of w) (page_size s)))
  where
    go : Split (ltb (page_of w) s.n && leb (offset_of w + size_of w) (page_size s)) → Spanned s w x
    go (inl p) =
        let f : ◌≡◌ {A = Result Span Refusal} (Ok (record { at = address_of s w; len = size_of w })) (Ok x) = rw p at e in
        let g : x ≡ record { at = address_of s w; len = size_of w } = cc in
        record {
          paged = ltb-true (page_of w) s.n (and_left (ltb (page_of w) s.n) _ p);
          inside = leb-true (offset_of w + size_of w) (page_size s) (and_right (ltb (page_of w) s.n) _ p);
          starts = ap (λ (y : Span). y.at) g;
          sized = ap (λ (y : Span). y.len) g;
        }
    go (inr p) =
        let f : ◌≡◌ {A = Result Span Refusal} (Err Unopened) (Ok x) = rw p at e in
        let z : ◌≡◌ {A = ℕ} 0 1 = cc in
        absurd (omega arith)

pub span-bad : (s : Sizes) (w : ℕ) → (page_of w < s.n → offset_of w + size_of w ≤ page_size s → ⊥) → entry_field s w ≡ Err Unopened
unfolding entry_field
span-bad s w h = go (split (ltb (page_of w) s.n && leb (offset_of w + size_of w) (page_size s)))
  where
    go : Split (ltb (page_of w) s.n && leb (offset_of w + size_of w) (page_size s)) → entry_field s w ≡ Err Unopened
    go (inl p) =
        absurd (h (ltb-true (page_of w) s.n (and_left (ltb (page_of w) s.n) _ p))
        (leb-true (offset_of w + size_of w) (page_size s) (and_right (ltb (page_of w) s.n) _ p)))
    go (inr p) = rw p

-- The entry's bytes are those of its span, and a word without a span has no bytes.
pub bytes-spanned : (s : Sizes) (pages : Bytes) (w : ℕ) → entry_bytes s pages w ≡ bytes_spanned pages (entry_field s w)
unfolding entry_bytes entry_field
bytes-spanned s pages w = go (split (ltb (page_of w) s.n && leb (offset_of w + size_of w) (page_size s)))
  where
    go : Split (ltb (page_of w) s.n && leb (offset_of w + size_of w) (page_size s)) → entry_bytes s pages w ≡ bytes_spanned pages (entry_field s w)
    go (inl p) = rw p
    go (inr p) = rw p

pub bytes-by : (s : Sizes) (pages : Bytes) (w : ℕ) (r : Result Span Refusal) → r ≡ entry_field s w → bytes_spanned pages r ≡ entry_bytes s pages w
bytes-by s pages w r e = ap (bytes_spanned pages) e ∙ sym (bytes-spanned s pages w)
