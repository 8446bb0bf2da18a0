-- Where an IRI is split: after its last '/' or '#'. Assumes nothing.
use Rattle.std.specs.Prelude.{ℕ, zero, suc, ◌≤◌, ◌<◌, ◌≡◌, Bool, true, false, ◌||◌, [], ◌∷◌, eqb, get_or, Option, Some, None}
use Rattle.slices.specs.Bytes.{Bytes}

-- '/' or '#'.
abbrev pub is_mark : ℕ → Bool
is_mark c = eqb c 47 || eqb c 35

-- No byte from b on and before e is a mark.
abbrev pub Unmarked : Bytes → ℕ → ℕ → Type 0
Unmarked s b e = (i : ℕ) → b ≤ i → i < e → is_mark (get_or s i 0) ≡ false

-- One byte more in front. A later mark stays the last one; without a later mark the byte itself may be the last one.
abbrev pub after_mark : Bool → ℕ → ℕ
after_mark b (suc n) = suc (suc n)
after_mark true zero = 1
after_mark false zero = zero

-- The length up to and including the last mark; 0 without a mark.
abbrev pub head_length : Bytes → ℕ
head_length [] = zero
head_length (c ∷ cs) = after_mark (is_mark c) (head_length cs)

-- The answer for a head of n bytes.
abbrev pub head_from : ℕ → Option ℕ
head_from zero = None
head_from (suc n) = Some (suc n)

-- What the split answers.
unfoldable pub head_of : Bytes → Option ℕ
head_of s = head_from (head_length s)

-- An answer as a number: the length of the head. Without a mark the head is empty.
abbrev pub length_of : Option ℕ → ℕ
length_of None = 0
length_of (Some n) = n
