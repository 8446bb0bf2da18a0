-- The places that a search visits: from the hash h up one place at a time, wrapping to 0 at m. Assumes nothing.
use Rattle.std.specs.Prelude.{ℕ, ◌+◌, ◌%◌}

-- The place after k steps.
unfoldable pub place_after : ℕ → ℕ → ℕ → ℕ
place_after m h k = (h + k) % m
