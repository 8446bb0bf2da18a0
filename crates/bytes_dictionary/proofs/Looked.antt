-- What a lookup answers, from the count and the entry's word. Assumes nothing.
use Prim.Native.Nat.{ℕ, ◌≤◌, ◌<◌}
use mathlib.Core.Path.{◌≡◌, refl, sym, ap, subst, ◌∙◌}
use mathlib.Core.Option.{Option, some}
use native.Mathlib.Omega.{arith}
use lib.ListN.{length, get_or, take, drop, length-take}
use Rattle.std.specs.Prelude.{Some, None, Result, Ok, Err}
use Rattle.slices.specs.Bytes.{Bytes}
use Rattle.words.specs.Words.{word_at}
use Rattle.layout.specs.declared.Sizes.{Sizes}
use Rattle.layout.specs.Sizes.{dictionaries}
use Rattle.layout.specs.Fields.{count_at, entry_at, size_of}
use Rattle.refusals.specs.declared.Refusal.{Refusal}
use Rattle.refusals.specs.declared.Refusal.TheVariants.{Unopened}
use Rattle.bytes_index.specs.declared.Span.{Span}
use Rattle.bytes_index.specs.Entries.{address_of, Addresses}
use Rattle.bytes_index.specs.Field.{entry_bytes, SpanOf}
use Rattle.bytes_index.proofs.Stored.{field_in, field_at, field-why, field-ends, addresses-part}
use Rattle.bytes_index.proofs.Spans.{span_at, bytes-by}
use Rattle.bytes_dictionary.specs.Store.{Store, StoreAt}
use Rattle.bytes_dictionary.specs.Reading.{count_in, Lookup, Gives, Looked, SpanLookup, lookup_in, LookedUp}
use Rattle.bytes_dictionary.proofs.Reading.{count-is}

module _ (s : Sizes) (d i : ℕ) (pages lists : Bytes) (dl : d < dictionaries) where
  -- No store has more entries than there is room for.
  pub looked-uncounted : (r : Lookup) → r ≡ Err Unopened → s.e < word_at lists (count_at d) → Looked s d i pages lists r
  looked-uncounted r e l =
      rw e record { inside = refl; named = tt; right = λ st S. let D = S.dict d dl in absurd (omega (arith, D.counted, D.most)) }

  pub looked-nothing : word_at lists (count_at d) ≤ i → Looked s d i pages lists (Ok None)
  looked-nothing l =
      record {
        inside = tt;
        named = tt;
        right = λ st S.
            let D = S.dict d dl in
            subst (λ (o : Option Bytes). Gives o (Ok None)) (sym (D.past i (omega (arith, D.counted)))) tt;
      }

  module _ (below : i < word_at lists (count_at d)) where
    -- The entry is in use, and its word stands for it.
    pub record Kept (st : Store) : Type 0 where
      pub key : Bytes
      pub in_use : st.entries d i ≡ some key
      pub addressed : Addresses s (λ a. get_or pages a 0) (word_at lists (entry_at s d i)) key

    kept : (st : Store) → StoreAt s st pages lists → Kept st
    kept st S =
        let D = S.dict d dl in
        let u = D.in_use i (omega (arith, D.counted)) in
        record { key = u.0; in_use = u.1; addressed = (D.holds.entry i u.0 u.1).1 }

    pub looked-at : (x : Bytes) → entry_bytes s pages (word_at lists (entry_at s d i)) ≡ Ok x → Looked s d i pages lists (Ok (Some x))
    looked-at x L =
        let w = word_at lists (entry_at s d i) in
        let F = field_at s pages w x L in
        let n : length (take (size_of w) (drop (address_of s w) pages)) ≤ size_of w = simp length-take (omega arith) in
        record {
          inside = omega (arith, ap length F.stored, n, F.inside);
          named = L;
          right = λ st S.
              let K = kept st S in
              subst (λ (o : Option Bytes). Gives o (Ok (Some x))) (sym K.in_use)
              (F.stored ∙ addresses-part s pages w K.key (field-ends s pages w F.paged F.inside S.header.pages-fit) K.addressed);
        }

    pub looked-foreign : (r : Lookup) (why : Refusal) → r ≡ Err why → entry_bytes s pages (word_at lists (entry_at s d i)) ≡ Err why → Looked s d i pages lists r
    looked-foreign r why e L =
        rw e record {
          inside = field-why s pages _ why L;
          named = tt;
          right = λ st S.
              let K = kept st S in
              let g : ◌≡◌ {A = Result Bytes Refusal} (Err why) (Ok _) = sym L ∙ field_in s pages (word_at lists (entry_at s d i)) K.addressed.paged K.addressed.inside in
              let z : ◌≡◌ {A = ℕ} 0 1 = cc in
              absurd (omega arith);
        }

-- ---- a lookup in the lists alone

module _ (s : Sizes) (d i : ℕ) (lists : Bytes) (dl : d < dictionaries) where
  pub looked-up-uncounted : (r : SpanLookup) → r ≡ Err Unopened → s.e < word_at lists (count_at d) → LookedUp s d i lists r
  looked-up-uncounted r e l =
      rw e record { inside = refl; named = tt; right = λ pages st f S. (looked-uncounted s d i pages lists dl (Err Unopened) refl l).right st S }

  pub looked-up-nothing : word_at lists (count_at d) ≤ i → LookedUp s d i lists (Ok None)
  looked-up-nothing l = record { inside = tt; named = tt; right = λ pages st f S. (looked-nothing s d i pages lists dl l).right st S }

  module _ (below : i < word_at lists (count_at d)) where
    pub looked-up-at : (x : Span) → SpanOf s (word_at lists (entry_at s d i)) (Ok x) → LookedUp s d i lists (Ok (Some x))
    looked-up-at x L =
        record {
          inside = L.inside;
          named = sym L.field;
          right = λ pages st f S.
              (looked-at s d i pages lists dl below (take x.len (drop x.at pages)) (sym (bytes-by s pages _ (Ok x) L.field))).right st S;
        }

    pub looked-up-foreign : (r : SpanLookup) (why : Refusal) → r ≡ Err why → SpanOf s (word_at lists (entry_at s d i)) (Err why) → LookedUp s d i lists r
    looked-up-foreign r why e L =
        rw e record {
          inside = L.inside;
          named = tt;
          right = λ pages st f S.
              (looked-foreign s d i pages lists dl below (Err why) why refl (sym (bytes-by s pages _ (Err why) L.field))).right st S;
        }

-- What it answers in the pages that are lent.
pub looked-in : (s : Sizes) (d i : ℕ) (pages lists : Bytes) (r : SpanLookup) → LookedUp s d i lists r → Looked s d i pages lists (lookup_in pages r)
looked-in s d i pages lists (Ok (Some x)) U =
    let w : ℕ = word_at lists (entry_at s d i) in
    let F = span_at s w x U.named in
    let n : length (take x.len (drop x.at pages)) ≤ x.len = simp length-take (omega arith) in
    record {
      inside = omega (arith, n, F.sized, F.inside);
      named = sym (bytes-by s pages w (Ok x) (sym U.named));
      right = λ st S. U.right pages st S.header.pages-fit S;
    }
looked-in s d i pages lists (Ok None) U = record { inside = tt; named = tt; right = λ st S. U.right pages st S.header.pages-fit S }
looked-in s d i pages lists (Err why) U = record { inside = U.inside; named = tt; right = λ st S. U.right pages st S.header.pages-fit S }

-- ---- the count of a memory that stands for a store

pub store-counted : (s : Sizes) (st : Store) (pages lists : Bytes) (d : ℕ) → d < dictionaries → StoreAt s st pages lists → count_in s (word_at lists (count_at d)) ≡ Ok (st.count d)
store-counted s st pages lists d l S =
    let D = S.dict d l in
    ap (count_in s) D.counted ∙ sym (count-is s (st.count d) (st.count d) refl D.most)
