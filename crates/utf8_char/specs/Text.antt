-- The test for UTF-8, one byte at a time. proofs/Grammar.antt proves that it accepts exactly what the grammar derives.
-- Assumes nothing.
use Rattle.std.specs.Prelude.{ℕ, ◌-◌, Bool, false, cond, [], ◌∷◌, eqb, Option, Some, None}
use Rattle.slices.specs.Bytes.{Bytes}
pub use Rattle.slices.specs.Ranges.{within}
use Rattle.utf8_char.specs.declared.Due.{Due}

-- What the next byte must be, by the bytes read so far. None: no text begins with these bytes.
abbrev pub Step : Type 0
Step = Option Due

-- n tail bytes of a character are due, and the next one must be from lo to hi.
abbrev pub awaiting : ℕ → ℕ → ℕ → Step
awaiting n lo hi = Some (record { left = n; lo = lo; hi = hi })

-- Between two characters no tail byte is due.
abbrev pub char_start : Step
char_start = awaiting 0 0x80 0xBF

-- What the first byte of a character leaves due.
unfoldable pub first_of : ℕ → Step
first_of b =
    cond (within 0x00 0x7F b) char_start
    (cond (within 0xC2 0xDF b) (awaiting 1 0x80 0xBF)
    (cond (eqb b 0xE0) (awaiting 2 0xA0 0xBF)
    (cond (within 0xE1 0xEC b) (awaiting 2 0x80 0xBF)
    (cond (eqb b 0xED) (awaiting 2 0x80 0x9F)
    (cond (within 0xEE 0xEF b) (awaiting 2 0x80 0xBF)
    (cond (eqb b 0xF0) (awaiting 3 0x90 0xBF)
    (cond (within 0xF1 0xF3 b) (awaiting 3 0x80 0xBF)
    (cond (eqb b 0xF4) (awaiting 3 0x80 0x8F) None))))))))

-- What one more byte leaves due.
abbrev pub after : Step → ℕ → Step
after None b = None
after (Some d) b = cond (eqb d.left 0) (first_of b) (cond (within d.lo d.hi b) (awaiting (d.left - 1) 0x80 0xBF) None)

abbrev pub none_due : Step → Bool
none_due None = false
none_due (Some d) = eqb d.left 0

-- The bytes complete the character that has begun, and what follows it is text.
abbrev pub text_from : Step → Bytes → Bool
text_from x [] = none_due x
text_from x (b ∷ s) = text_from (after x b) s

unfoldable pub is_text : Bytes → Bool
is_text s = text_from char_start s
