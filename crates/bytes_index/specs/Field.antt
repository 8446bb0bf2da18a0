-- What an entry word says, in any memory. Assumes nothing.
use Rattle.std.specs.Prelude.{◌≡◌, ◌&&◌, cond, ℕ, ◌+◌, ◌≤◌, ltb, leb, take, drop, Result, Ok, Err}
use Rattle.std.specs.Borrow.{Bor}
use Rattle.slices.specs.Bytes.{Bytes}
use Rattle.layout.specs.declared.Sizes.{Sizes}
use Rattle.layout.specs.Sizes.{page_size, page_bytes}
use Rattle.layout.specs.Fields.{page_of, offset_of, size_of}
use Rattle.refusals.specs.declared.Refusal.{Refusal}
use Rattle.refusals.specs.declared.Refusal.TheVariants.{Unopened}
use Rattle.bytes_index.specs.declared.Span.{Span}
use Rattle.bytes_index.specs.Entries.{address_of}

-- The entry's bytes; Unopened unless they lie in one page.
unfoldable pub entry_bytes : Sizes → Bytes → ℕ → Result Bytes Refusal
entry_bytes s pages w =
    cond (ltb (page_of w) s.n && leb (offset_of w + size_of w) (page_size s)) (Ok (take (size_of w) (drop (address_of s w) pages))) (Err Unopened)

-- The same of an answer that lends them.
abbrev pub entry_in : Result (Bor Bytes) Refusal → Result Bytes Refusal
entry_in (Ok x) = Ok x.now
entry_in (Err why) = Err why

-- Where in the pages the entry's bytes lie; Unopened unless they lie in one page.
unfoldable pub entry_field : Sizes → ℕ → Result Span Refusal
entry_field s w = cond (ltb (page_of w) s.n && leb (offset_of w + size_of w) (page_size s)) (Ok (record { at = address_of s w; len = size_of w })) (Err Unopened)

-- A span lies inside the pages.
abbrev pub SpanInside : Sizes → Result Span Refusal → Type 0
SpanInside s (Ok x) = x.at + x.len ≤ page_bytes s
SpanInside s (Err why) = why ≡ Unopened

pub record SpanOf (s : Sizes) (w : ℕ) (r : Result Span Refusal) : Type 0 where
  pub field : r ≡ entry_field s w
  pub inside : SpanInside s r

-- The bytes of a span.
abbrev pub bytes_spanned : Bytes → Result Span Refusal → Result Bytes Refusal
bytes_spanned pages (Ok x) = Ok (take x.len (drop x.at pages))
bytes_spanned pages (Err why) = Err why
