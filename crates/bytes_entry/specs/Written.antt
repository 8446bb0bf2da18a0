-- The words of the lists after an entry is written. Assumes nothing.
use Rattle.std.specs.Prelude.{ℕ, ◌+◌}
use Rattle.slices.specs.Bytes.{Bytes}
use Rattle.words.specs.Words.{set_word, set_quad}
use Rattle.layout.specs.declared.Sizes.{Sizes}
use Rattle.layout.specs.Fields.{count_at, entry_at, order_at, place_at, entry_word, place_word}

-- The words of entry number n, whose key has the hash h: where it lies, its stamp, the index place that names it, and the count.
unfoldable pub entry_written : Sizes → Bytes → ℕ → ℕ → ℕ → ℕ → ℕ → ℕ → ℕ → ℕ → Bytes
entry_written s lists d n page offset len stamp place h =
    set_word
    (set_quad
    (set_word (set_word lists (entry_at s d n) (entry_word page offset len)) (order_at s d n) stamp)
    (place_at s d place)
    (place_word n h))
    (count_at d)
    (n + 1)
