-- What a count and a lookup answer. Assumes nothing.
use Rattle.std.specs.Prelude.{ℕ, ◌+◌, ◌≤◌, ◌≡◌, cond, leb, length, take, drop, Some, None, Result, Ok, Err}
use Rattle.std.specs.Prelude as Rust
use Rattle.std.specs.Borrow.{Bor}
use Rattle.std.proofs.Math.Option.{Option, none, some}
use Rattle.slices.specs.Bytes.{Bytes}
use Rattle.layout.specs.declared.Sizes.{Sizes}
use Rattle.layout.specs.Sizes.{page_size, page_bytes}
use Rattle.refusals.specs.declared.Refusal.{Refusal}
use Rattle.refusals.specs.declared.Refusal.TheVariants.{Unopened}
use Rattle.words.specs.Words.{word_at}
use Rattle.layout.specs.Fields.{entry_at}
use Rattle.bytes_index.specs.declared.Span.{Span}
use Rattle.bytes_index.specs.Field.{entry_bytes, entry_field}
use Rattle.bytes_dictionary.specs.Store.{Store, StoreAt}

-- A dictionary's count, by its word.
unfoldable pub count_in : Sizes → ℕ → Result ℕ Refusal
count_in s w = cond (leb w s.e) (Ok w) (Err Unopened)

-- What a lookup answers: an entry's bytes, or none, or a refusal.
abbrev pub Lookup : Type 0
Lookup = Result (Rust.Option Bytes) Refusal

-- The same of an answer that lends the bytes.
abbrev pub bytes_lent : Rust.Option (Bor Bytes) → Rust.Option Bytes
bytes_lent (Some x) = Some x.now
bytes_lent None = None

abbrev pub entry_given : Result (Rust.Option (Bor Bytes)) Refusal → Lookup
entry_given (Ok o) = Ok (bytes_lent o)
entry_given (Err why) = Err why

-- What a lookup gives: the entry's bytes. No entry: None.
abbrev pub Gives : Option Bytes → Lookup → Type 0
Gives (some key) (Ok (Some x)) = x ≡ key
Gives (some key) (Ok None) = ⊥
Gives (some key) (Err why) = ⊥
Gives none (Ok (Some x)) = ⊥
Gives none (Ok None) = Unit {0}
Gives none (Err why) = ⊥

abbrev pub LookupInside : Sizes → Lookup → Type 0
LookupInside s (Ok (Some x)) = length x ≤ page_size s
LookupInside s (Ok None) = Unit {0}
LookupInside s (Err why) = why ≡ Unopened

-- The bytes are those that the entry's word w names in the pages.
abbrev pub LookupNamed : Sizes → Bytes → ℕ → Lookup → Type 0
LookupNamed s pages w (Ok (Some x)) = entry_bytes s pages w ≡ Ok x
LookupNamed s pages w (Ok None) = Unit {0}
LookupNamed s pages w (Err why) = Unit {0}

-- What a lookup of entry i of dictionary d answers. Whatever the memory holds, the bytes are those that the entry's word names, and no longer than a page.
pub record Looked (s : Sizes) (d i : ℕ) (pages lists : Bytes) (r : Lookup) : Type 0 where
  pub inside : LookupInside s r
  pub named : LookupNamed s pages (word_at lists (entry_at s d i)) r
  pub right : (st : Store) → StoreAt s st pages lists → Gives (st.entries d i) r

-- ---- a lookup in the lists alone

-- What it answers: where the entry lies, or none, or a refusal.
abbrev pub SpanLookup : Type 0
SpanLookup = Result (Rust.Option Span) Refusal

-- The same in these pages, with the bytes that lie there.
abbrev pub lookup_in : Bytes → SpanLookup → Lookup
lookup_in pages (Ok (Some x)) = Ok (Some (take x.len (drop x.at pages)))
lookup_in pages (Ok None) = Ok None
lookup_in pages (Err why) = Err why

abbrev pub SpanLookupInside : Sizes → SpanLookup → Type 0
SpanLookupInside s (Ok (Some x)) = x.at + x.len ≤ page_bytes s
SpanLookupInside s (Ok None) = Unit {0}
SpanLookupInside s (Err why) = why ≡ Unopened

-- The span is the one that the entry's word w names.
abbrev pub SpanLookupNamed : Sizes → ℕ → SpanLookup → Type 0
SpanLookupNamed s w (Ok (Some x)) = entry_field s w ≡ Ok x
SpanLookupNamed s w (Ok None) = Unit {0}
SpanLookupNamed s w (Err why) = Unit {0}

-- What a lookup of entry i of dictionary d answers. The part that it names lies in the pages, whatever the memory holds. In all pages that stand for a store with these lists, the entry's bytes lie there.
pub record LookedUp (s : Sizes) (d i : ℕ) (lists : Bytes) (r : SpanLookup) : Type 0 where
  pub inside : SpanLookupInside s r
  pub named : SpanLookupNamed s (word_at lists (entry_at s d i)) r
  pub right : (pages : Bytes) (st : Store) → page_bytes s ≤ length pages → StoreAt s st pages lists → Gives (st.entries d i) (lookup_in pages r)
