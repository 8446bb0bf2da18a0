-- The memory after an insert. Assumes nothing.
use Rattle.std.specs.Prelude.{ℕ, ◌+◌, ◌*◌, ◌<◌, ◌≤◌, length, Option, Some, None}
use Rattle.std.proofs.lemmas.List.Edits.{sets}
use Rattle.slices.specs.Bytes.{Bytes}
use Rattle.fnv.specs.Fnv.{fnv_of}
use Rattle.layout.specs.declared.Sizes.{Sizes}
use Rattle.layout.specs.Sizes.{page_size}
use Rattle.bytes_buffer.specs.declared.Spot.{Spot}
use Rattle.bytes_buffer.specs.declared.Spot.TheVariants.{Current, Next}
use Rattle.page_words.specs.Written.{extended_page, took_page}
use Rattle.bytes_entry.specs.Written.{entry_written}

-- The pages get the key's bytes at its spot; `lists` gets its words and those of its page.
unfoldable pub pages_after : Sizes → Bytes → Spot → Bytes → Bytes
pages_after s pages (Current page offset) key = sets pages (page * page_size s + offset) key
pages_after s pages (Next page) key = sets pages (page * page_size s + 0) key

unfoldable pub lists_after : Sizes → Bytes → ℕ → ℕ → ℕ → Spot → ℕ → Bytes → Bytes
lists_after s lists d n place (Current page offset) stamp key =
    extended_page (entry_written s lists d n page offset (length key) stamp place (fnv_of key)) page (offset + length key)
lists_after s lists d n place (Next page) stamp key = took_page (entry_written s lists d n page 0 (length key) stamp place (fnv_of key)) d page (length key)

-- The page and the offset of a spot.
abbrev pub page_at : Spot → ℕ
page_at (Current page offset) = page
page_at (Next page) = page

abbrev pub offset_at : Spot → ℕ
offset_at (Current page offset) = offset
offset_at (Next page) = 0

-- The spot has room for an entry of len bytes. This holds of every planned spot.
abbrev pub HasRoom : Sizes → ℕ → Spot → Type 0
HasRoom s len (Current page offset) = (page < s.n) × (offset + len ≤ page_size s)
HasRoom s len (Next page) = (page < s.n) × (len ≤ page_size s)

-- ---- with a spot or without: without one nothing is written, and no room is needed

abbrev pub pages_with : Sizes → Bytes → Option Spot → Bytes → Bytes
pages_with s pages (Some spot) key = pages_after s pages spot key
pages_with s pages None key = pages

abbrev pub lists_with : Sizes → Bytes → ℕ → ℕ → ℕ → Option Spot → ℕ → Bytes → Bytes
lists_with s lists d n place (Some spot) stamp key = lists_after s lists d n place spot stamp key
lists_with s lists d n place None stamp key = lists

abbrev pub HasRoomIf : Sizes → ℕ → Option Spot → Type 0
HasRoomIf s len (Some spot) = HasRoom s len spot
HasRoomIf s len None = Unit {0}
