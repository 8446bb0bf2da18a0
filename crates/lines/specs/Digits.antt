-- The number in front of a text. Assumes nothing.
use Rattle.std.specs.Prelude.{ℕ, ◌+◌, ◌-◌, ◌*◌, ◌&&◌, Bool, cond, List, [], ◌∷◌, leb, ltb, Option, Some, None, is_some}

-- b is from lo to hi.
abbrev pub within : ℕ → ℕ → ℕ → Bool
within lo hi b = leb lo b && leb b hi

-- Behind 0 to 9 the digits are a, b, c and so on.
unfoldable pub any_digit : ℕ → Option ℕ
any_digit b = cond (within 48 57 b) (Some (b - 48)) (cond (within 97 122 b) (Some (b - 97 + 10)) None)

abbrev pub below : ℕ → Option ℕ → Option ℕ
below base None = None
below base (Some d) = cond (ltb d base) (Some d) None

-- A digit's value, if it is below the base.
abbrev pub digit_value : ℕ → ℕ → Option ℕ
digit_value base b = below base (any_digit b)

abbrev pub or_zero : Option ℕ → ℕ
or_zero None = 0
or_zero (Some d) = d

-- The number v goes on with the digits in front of a text: the whole number, and what is behind its digits. A digit is taken only while the number is below the room.
unfoldable pub number_in : ℕ → ℕ → ℕ → List ℕ → ℕ × List ℕ
number_in base room v [] = (v, [])
number_in base room v (b ∷ s) =
    cond (ltb v room && is_some (digit_value base b)) (number_in base room (v * base + or_zero (digit_value base b)) s) (v, b ∷ s)
