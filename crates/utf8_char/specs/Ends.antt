-- Where a character ends: the bytes behind it are text exactly if the bytes from it on are. Assumes nothing.
use Rattle.std.specs.Prelude.{ℕ, ◌≤◌, ◌<◌, ◌≡◌, false, length, drop, Option, Some, None}
use Rattle.slices.specs.Bytes.{Bytes}
use Rattle.utf8_char.specs.Text.{char_start, text_from}

-- The bytes from r on are text exactly if those from i on are.
abbrev pub Same : Bytes → ℕ → ℕ → Type 0
Same s i r = text_from char_start (drop r s) ≡ text_from char_start (drop i s)

-- Some k: a pass from i to a later k. None: the bytes from i on are no text.
abbrev pub Ends : Bytes → ℕ → Option ℕ → Type 0
Ends s i (Some k) = (i < k) × (k ≤ length s) × Same s i k
Ends s i None = text_from char_start (drop i s) ≡ false
