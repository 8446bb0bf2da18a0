-- The bytes of two parts in a row, and what the comparison of a key with stored bytes answers. Assumes nothing.
use Rattle.std.specs.Prelude.{◌≡◌, Bool, ◌&&◌, ◌++◌, ℕ, ◌+◌, ◌-◌, ◌<◌, ◌≤◌, eqb, length, get_or, take, Option, Some, None}
use Rattle.slices.specs.Bytes.{Bytes, same_bytes}
use Rattle.parts.specs.declared.Mode.{Mode}
use Rattle.parts.specs.Parts.{bytes_of}

-- A key: the stored bytes of a front, then those of a rest.
abbrev pub key_bytes : Mode → Bytes → Mode → Bytes → Bytes
key_bytes mode front mode' rest = bytes_of mode front ++ bytes_of mode' rest

-- A stored key is this front and n bytes more.
unfoldable pub front_is : Bytes → Bytes → ℕ → Bool
front_is stored front n = eqb (length stored) (length front + n) && same_bytes front (take (length front) stored)

-- The last b bytes of the rest, without the last a, are the same in the pages, where the rest ends at `end`.
abbrev pub Agree : Bytes → ℕ → Bytes → ℕ → ℕ → Type 0
Agree pages end rest a b = (k : ℕ) → a < k → k ≤ b → get_or pages (end - k) 0 ≡ get_or rest (length rest - k) 0

-- The last `left` bytes are still to compare, and r more agree. 0: not all of the rest agrees.
pub record Agreeing (pages : Bytes) (end : ℕ) (rest : Bytes) (left r : ℕ) : Type 0 where
  pub within : r ≤ left
  pub same : Agree pages end rest (left - r) left
  pub differ : r ≡ 0 → Agree pages end rest 0 (length rest) → ⊥

-- The same r of an answer that is none where not all of the rest agrees.
abbrev pub agreed : Option ℕ → ℕ
agreed None = 0
agreed (Some r) = r
