-- Passing over bytes: the bytes left are text exactly if the bytes before the step are. Assumes nothing.
use Rattle.std.specs.Prelude.{ℕ, ◌≤◌, ◌≡◌, Bool, true, ◌&&◌, [], ◌∷◌, ◌++◌, ltb, length, All}
use Rattle.slices.specs.Bytes.{Bytes}
use Rattle.utf8_char.specs.Grammar.{In, Tail}
use Rattle.utf8_char.specs.Text.{char_start, text_from}
use Rattle.utf8_char.specs.Ends.{Same}

-- Each byte is below 0x80, so it is a character by itself.
abbrev pub ascii : Bytes → Bool
ascii [] = true
ascii (b ∷ s) = ltb b 0x80 && ascii s

-- A first byte from lo to hi, and tail bytes.
abbrev pub IsChar : ℕ → ℕ → Bytes → Type 0
IsChar lo hi [] = ⊥
IsChar lo hi (b ∷ s) = In lo hi b × All Tail s

-- Whole characters: what follows them is text exactly if all together is.
abbrev pub Characters : Bytes → Type 0
Characters c = (rest : Bytes) → text_from char_start (c ++ rest) ≡ text_from char_start rest

-- A pass from i to r: the bytes from r on are text exactly if those from i on are.
abbrev pub Passed : Bytes → ℕ → ℕ → Type 0
Passed s i r = (i ≤ r) × (r ≤ length s) × Same s i r
