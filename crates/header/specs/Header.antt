-- Which memory is a dictionary's, judged by its header. Assumes nothing.
use Rattle.std.specs.Prelude.{ℕ, ◌<◌, ◌≤◌, ◌≡◌, true, false, not, cond, eqb, ltb, length, replicate, Result, Ok, Err}
use Rattle.slices.specs.Bytes.{Bytes}
use Rattle.words.specs.Words.{word_at}
use Rattle.layout.specs.declared.Sizes.{Sizes}
use Rattle.layout.specs.declared.lent.Memory.{Memory}
use Rattle.layout.specs.Sizes.{in_range, page_bytes, list_bytes}
use Rattle.layout.specs.Fields.{format}
use Rattle.refusals.specs.declared.Refusal.{Refusal}
use Rattle.refusals.specs.declared.Refusal.TheVariants.{Unopened}

-- The sizes that are written in `lists`.
abbrev pub sizes_in : Bytes → Sizes
sizes_in lists = record { p = word_at lists 1; n = word_at lists 2; e = word_at lists 3; w = word_at lists 4; b = word_at lists 5 }

-- What the check of the header answers. `pages` is the length of the pages.
unfoldable pub header_of : ℕ → Bytes → Result Sizes Refusal
header_of pages lists =
    cond (ltb (length lists) 512) (Err Unopened)
    (cond (not (eqb (word_at lists 0) format)) (Err Unopened)
    (cond (not (in_range (sizes_in lists))) (Err Unopened)
    (cond (ltb pages (page_bytes (sizes_in lists))) (Err Unopened)
    (cond (ltb (length lists) (list_bytes (sizes_in lists))) (Err Unopened) (Ok (sizes_in lists))))))

-- The sizes of the memory that the check gives.
abbrev pub sized : Result Memory Refusal → Result Sizes Refusal
sized (Ok x) = Ok x.lists.layout.sizes
sized (Err why) = Err why

-- The cases in which document 01 always requires refusal 3.
pub data AlwaysUnopened (pages lists : Bytes) : Type 0 where
  all-zero : lists ≡ replicate (length lists) 0 → AlwaysUnopened pages lists
  under-512 : length lists < 512 → AlwaysUnopened pages lists
  out_of_range : in_range (sizes_in lists) ≡ false → AlwaysUnopened pages lists
  short-pages : length pages < page_bytes (sizes_in lists) → AlwaysUnopened pages lists
  short-lists : length lists < list_bytes (sizes_in lists) → AlwaysUnopened pages lists

-- What holds of the header of every dictionary's memory.
pub record HeaderOf (s : Sizes) (pages : ℕ) (lists : Bytes) : Type 0 where
  pub format-is : word_at lists 0 ≡ format
  pub sizes-are : sizes_in lists ≡ s
  pub ranged : in_range s ≡ true
  pub pages-fit : page_bytes s ≤ pages
  pub lists-fit : list_bytes s ≤ length lists
