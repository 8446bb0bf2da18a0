-- UTF-8 by RFC 3629, section 4: a constructor for each alternative of the grammar. Assumes nothing.
use Rattle.std.specs.Prelude.{ℕ, ◌≤◌, [], ◌∷◌, ◌++◌}
use Rattle.slices.specs.Bytes.{Bytes}

-- %xLO-HI
abbrev pub In : ℕ → ℕ → ℕ → Type 0
In lo hi b = (lo ≤ b) × (b ≤ hi)

-- UTF8-tail = %x80-BF
abbrev pub Tail : ℕ → Type 0
Tail b = In 0x80 0xBF b

-- UTF8-char = UTF8-1 / UTF8-2 / UTF8-3 / UTF8-4
pub data Char : Bytes → Type 0 where
  -- UTF8-1 = %x00-7F
  one : {a : ℕ} → In 0x00 0x7F a → Char (a ∷ [])
  -- UTF8-2 = %xC2-DF UTF8-tail
  two : {a b : ℕ} → In 0xC2 0xDF a → Tail b → Char (a ∷ b ∷ [])
  -- UTF8-3 = %xE0 %xA0-BF UTF8-tail / %xE1-EC 2( UTF8-tail ) / %xED %x80-9F UTF8-tail / %xEE-EF 2( UTF8-tail )
  three-e0 : {b c : ℕ} → In 0xA0 0xBF b → Tail c → Char (0xE0 ∷ b ∷ c ∷ [])
  three-e1-ec : {a b c : ℕ} → In 0xE1 0xEC a → Tail b → Tail c → Char (a ∷ b ∷ c ∷ [])
  three-ed : {b c : ℕ} → In 0x80 0x9F b → Tail c → Char (0xED ∷ b ∷ c ∷ [])
  three-ee-ef : {a b c : ℕ} → In 0xEE 0xEF a → Tail b → Tail c → Char (a ∷ b ∷ c ∷ [])
  -- UTF8-4 = %xF0 %x90-BF 2( UTF8-tail ) / %xF1-F3 3( UTF8-tail ) / %xF4 %x80-8F 2( UTF8-tail )
  four-f0 : {b c d : ℕ} → In 0x90 0xBF b → Tail c → Tail d → Char (0xF0 ∷ b ∷ c ∷ d ∷ [])
  four-f1-f3 : {a b c d : ℕ} → In 0xF1 0xF3 a → Tail b → Tail c → Tail d → Char (a ∷ b ∷ c ∷ d ∷ [])
  four-f4 : {b c d : ℕ} → In 0x80 0x8F b → Tail c → Tail d → Char (0xF4 ∷ b ∷ c ∷ d ∷ [])

-- UTF8-octets = *( UTF8-char )
pub data Octets : Bytes → Type 0 where
  none : Octets []
  more : {c s : Bytes} → Char c → Octets s → Octets (c ++ s)
