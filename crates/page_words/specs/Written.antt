-- The words of `lists` after a page was extended or taken. Assumes nothing.
use Rattle.std.specs.Prelude.{ℕ, ◌+◌, ◌%◌}
use Rattle.slices.specs.Bytes.{Bytes}
use Rattle.words.specs.Words.{word_at, set_word}
use Rattle.layout.specs.Fields.{untaken_at, current_at, taken_at, page_at, page_word, owner_of, position_of}

-- A page's word with another used part.
abbrev pub with_used : ℕ → ℕ → ℕ
with_used w used = page_word (owner_of w) used (position_of w)

-- `lists` after the page was marked as used up to `used`.
unfoldable pub extended_page : Bytes → ℕ → ℕ → Bytes
extended_page lists page used = set_word lists (page_at page) (with_used (word_at lists (page_at page)) used)

-- How many pages dictionary d has. There are at most 1,024 pages; while one is left, it has fewer.
abbrev pub pages_of : Bytes → ℕ → ℕ
pages_of lists d = word_at lists (taken_at d) % 1024

-- `lists` after the page became dictionary d's current one, used up to `used`.
unfoldable pub took_page : Bytes → ℕ → ℕ → ℕ → Bytes
took_page lists d page used =
    set_word
    (set_word
    (set_word (set_word lists (page_at page) (page_word (d + 1) used (pages_of lists d))) (taken_at d) (pages_of lists d + 1))
    (current_at d)
    (page + 1))
    untaken_at
    (page + 1)
