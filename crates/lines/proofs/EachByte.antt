-- What each byte is as a digit. Assumes nothing.
use Rattle.std.proofs.Common.{leb, ◌≡◌, ◌+◌, ◌-◌, ◌<◌, ◌≤◌, ℕ, true, false, Some, None, arith}
use Rattle.std.proofs.Math.Bool.{and-false}
use borrow.Author.Tests.{le-leb, lt-leb}
use Rattle.lines.specs.Digits.{within, any_digit}

inside : (lo hi b : ℕ) → lo ≤ b → b ≤ hi → within lo hi b ≡ true
inside lo hi b p q = rw (le-leb lo b p, le-leb b hi q)

below : (lo hi b : ℕ) → b < lo → within lo hi b ≡ false
below lo hi b p = rw (lt-leb lo b p)

above : (lo hi b : ℕ) → hi < b → within lo hi b ≡ false
above lo hi b p = rw (lt-leb b hi p) (and-false (leb lo b))

pub decimal : (b : ℕ) → 48 ≤ b → b ≤ 57 → any_digit b ≡ Some (b - 48)
unfolding any_digit
decimal b p q = rw (inside 48 57 b p q)

pub letter : (b : ℕ) → 97 ≤ b → b ≤ 122 → any_digit b ≡ Some (b - 97 + 10)
unfolding any_digit
letter b p q = rw (above 48 57 b (omega arith), inside 97 122 b p q)

pub before : (b : ℕ) → b < 48 → any_digit b ≡ None
unfolding any_digit
before b p = rw (below 48 57 b p, below 97 122 b (omega arith))

pub between : (b : ℕ) → 57 < b → b < 97 → any_digit b ≡ None
unfolding any_digit
between b p q = rw (above 48 57 b p, below 97 122 b q)

pub beyond : (b : ℕ) → 122 < b → any_digit b ≡ None
unfolding any_digit
beyond b p = rw (above 48 57 b (omega arith), above 97 122 b p)
