-- Little-endian numbers in a list of bytes, n bytes wide: words of eight bytes and quads of four. An index counts numbers of that width. Assumes nothing.
use Rattle.std.specs.Prelude.{ℕ, zero, suc, ◌+◌, ◌*◌, ◌/◌, ◌%◌, [], ◌∷◌, get_or}
use Rattle.std.proofs.lemmas.List.Edits.{sets}
use Rattle.slices.specs.Bytes.{Bytes}

-- The n bytes of a number, low end first.
unfoldable pub le : ℕ → ℕ → Bytes
le zero x = []
le (suc n) x = x % 256 ∷ le n (x / 256)

-- The number in the n bytes from b on.
unfoldable pub le_at : ℕ → Bytes → ℕ → ℕ
le_at zero s b = 0
le_at (suc n) s b = get_or s b 0 + 256 * le_at n s (suc b)

-- The number of n bytes at index i.
unfoldable pub number_at : ℕ → Bytes → ℕ → ℕ
number_at n s i = le_at n s (n * i)

-- The bytes s with the low n bytes of x at index i.
unfoldable pub set_number : ℕ → Bytes → ℕ → ℕ → Bytes
set_number n s i x = sets s (n * i) (le n x)

abbrev pub word_at : Bytes → ℕ → ℕ
word_at s i = number_at 8 s i

abbrev pub set_word : Bytes → ℕ → ℕ → Bytes
set_word s i x = set_number 8 s i x

abbrev pub quad_at : Bytes → ℕ → ℕ
quad_at s i = number_at 4 s i

abbrev pub set_quad : Bytes → ℕ → ℕ → Bytes
set_quad s i x = set_number 4 s i x
