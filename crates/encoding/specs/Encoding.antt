-- Which bytes are stored for a tag in front of its text. Assumes nothing.
use Rattle.std.specs.Prelude.{ℕ, Bool, not, cond, [], ◌∷◌, ◌++◌, eqb, leb, length}
use Rattle.slices.specs.Bytes.{Bytes}
use Rattle.encoding.specs.declared.Form.{Form}
use Rattle.encoding.specs.declared.Form.TheVariants.{Short, Long}
use Rattle.encoding.specs.declared.Stored.{Stored}
use Rattle.encoding.specs.declared.Stored.TheVariants.{Nothing, One, Two}

-- A byte of a long tag as it is stored: '\' as '\\', '>' as '\a'.
unfoldable pub escape : ℕ → Bytes
escape b = cond (eqb b 92) (92 ∷ 92 ∷ []) (cond (eqb b 62) (92 ∷ 97 ∷ []) (b ∷ []))

unfoldable pub escaped : Bytes → Bytes
escaped [] = []
escaped (b ∷ s) = escape b ++ escaped s

-- A tag in front of its text. Up to 127 bytes: length byte, tag. Longer: 0, the tag escaped, '>'.
abbrev pub short_tag : Bytes → Bytes
short_tag tag = length tag ∷ tag

abbrev pub long_tag : Bytes → Bytes
long_tag tag = 0 ∷ escaped tag ++ 62 ∷ []

abbrev pub is_long : Bytes → Bool
is_long tag = not (leb (length tag) 127)

unfoldable pub tag_bytes : Bytes → Bytes
tag_bytes tag = cond (is_long tag) (long_tag tag) (short_tag tag)

-- ---- the same, a byte at a time: the loops of the code follow these definitions (`tag-bytes` of proofs/Laws.antt)

-- How the bytes of a tag are stored.
abbrev pub form_of : Bytes → Form
form_of tag = cond (is_long tag) Long Short

-- The byte in front of a tag.
abbrev pub first_byte : Bytes → ℕ
first_byte tag = cond (is_long tag) 0 (length tag)

-- One byte of a tag as it is stored.
unfoldable pub encoded_byte : Form → ℕ → Bytes
encoded_byte Short b = b ∷ []
encoded_byte Long b = escape b

-- What is stored behind the last byte.
abbrev pub encoded_end : Form → Bytes
encoded_end Short = []
encoded_end Long = 62 ∷ []

-- What stands behind the byte in front.
unfoldable pub encoded : Form → Bytes → Bytes
encoded form [] = encoded_end form
encoded form (b ∷ tag) = encoded_byte form b ++ encoded form tag

-- The bytes that the code's answer for one byte, or for the end, holds.
abbrev pub stored_bytes : Stored → Bytes
stored_bytes Nothing = []
stored_bytes (One a) = a ∷ []
stored_bytes (Two a b) = a ∷ b ∷ []
