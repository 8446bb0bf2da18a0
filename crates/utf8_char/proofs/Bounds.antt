-- What the test says of each first byte, and how it goes on from one byte to the next. Assumes nothing.
use Prim.Native.Nat.{ℕ, ◌+◌, ◌≤◌, ◌<◌}
use mathlib.Core.Path.{◌≡◌, refl, ap}
use mathlib.Core.Bool.{Bool, true, false, ◌&&◌, cond}
use mathlib.Core.List.{[], ◌∷◌}
use native.Mathlib.Numerals.{add-one}
use native.Mathlib.Omega.{arith}
use lib.Dec.{leb, eqb}
use lib.ListN.{length, get_or, drop}
use lib.Seq.{drop-cons}
use borrow.Author.Tests.{le-leb, lt-leb, leb-true, ne_eqb}
use Rattle.std.specs.Prelude.{Some, None}
use Rattle.slices.specs.Bytes.{Bytes}
use Rattle.slices.proofs.Tests.{and_left, and_right}
use Rattle.utf8_char.specs.declared.Due.{Due}
use Rattle.utf8_char.specs.Grammar.{In}
use Rattle.utf8_char.specs.Text.{Step, awaiting, within, char_start, first_of, after, text_from}

-- ---- the test of bounds

pub inside : (lo hi b : ℕ) → In lo hi b → within lo hi b ≡ true
inside lo hi b p = rw (le-leb lo b p.0, le-leb b hi p.1)

pub below : (lo hi b : ℕ) → b < lo → within lo hi b ≡ false
below lo hi b p = rw (lt-leb lo b p)

and-false : (x : Bool) → (x && false) ≡ false
and-false true = refl
and-false false = refl

pub above : (lo hi b : ℕ) → hi < b → within lo hi b ≡ false
above lo hi b p = rw (lt-leb b hi p) (and-false (leb lo b))

pub bounds : (lo hi b : ℕ) → within lo hi b ≡ true → In lo hi b
bounds lo hi b e =
    (leb-true lo b (and_left (leb lo b) (leb b hi) e), leb-true b hi (and_right (leb lo b) (leb b hi) e))

-- ---- the first byte of a character

pub first_one : (b : ℕ) → In 0x00 0x7F b → first_of b ≡ char_start
unfolding first_of
first_one b p = rw (inside 0x00 0x7F b p)

pub first_two : (b : ℕ) → In 0xC2 0xDF b → first_of b ≡ awaiting 1 0x80 0xBF
unfolding first_of
first_two b p = rw (above 0x00 0x7F b (omega arith), inside 0xC2 0xDF b p)

pub first-e1-ec : (b : ℕ) → In 0xE1 0xEC b → first_of b ≡ awaiting 2 0x80 0xBF
unfolding first_of
first-e1-ec b p =
    rw (
      above 0x00 0x7F b (omega arith),
      above 0xC2 0xDF b (omega arith),
      ne_eqb b 0xE0 (omega arith),
      inside 0xE1 0xEC b p,
    )

pub first-ee-ef : (b : ℕ) → In 0xEE 0xEF b → first_of b ≡ awaiting 2 0x80 0xBF
unfolding first_of
first-ee-ef b p =
    rw (
      above 0x00 0x7F b (omega arith),
      above 0xC2 0xDF b (omega arith),
      ne_eqb b 0xE0 (omega arith),
      above 0xE1 0xEC b (omega arith),
      ne_eqb b 0xED (omega arith),
      inside 0xEE 0xEF b p,
    )

pub first-f1-f3 : (b : ℕ) → In 0xF1 0xF3 b → first_of b ≡ awaiting 3 0x80 0xBF
unfolding first_of
first-f1-f3 b p =
    rw (
      above 0x00 0x7F b (omega arith),
      above 0xC2 0xDF b (omega arith),
      ne_eqb b 0xE0 (omega arith),
      above 0xE1 0xEC b (omega arith),
      ne_eqb b 0xED (omega arith),
      above 0xEE 0xEF b (omega arith),
      ne_eqb b 0xF0 (omega arith),
      inside 0xF1 0xF3 b p,
    )

-- a tail byte, and the two that would begin nothing but a character written too long
pub first-low : (b : ℕ) → In 0x80 0xC1 b → first_of b ≡ None
unfolding first_of
first-low b p =
    rw (
      above 0x00 0x7F b (omega arith),
      below 0xC2 0xDF b (omega arith),
      ne_eqb b 0xE0 (omega arith),
      below 0xE1 0xEC b (omega arith),
      ne_eqb b 0xED (omega arith),
      below 0xEE 0xEF b (omega arith),
      ne_eqb b 0xF0 (omega arith),
      below 0xF1 0xF3 b (omega arith),
      ne_eqb b 0xF4 (omega arith),
    )

pub first-high : (b : ℕ) → 0xF5 ≤ b → first_of b ≡ None
unfolding first_of
first-high b p =
    rw (
      above 0x00 0x7F b (omega arith),
      above 0xC2 0xDF b (omega arith),
      ne_eqb b 0xE0 (omega arith),
      above 0xE1 0xEC b (omega arith),
      ne_eqb b 0xED (omega arith),
      above 0xEE 0xEF b (omega arith),
      ne_eqb b 0xF0 (omega arith),
      above 0xF1 0xF3 b (omega arith),
      ne_eqb b 0xF4 (omega arith),
    )

pub ruleset first_bytes = (first_one, first_two, first-e1-ec, first-ee-ef, first-f1-f3, first-low, first-high)

-- ---- from byte to byte

pub choose : (P : Step → Type 0) (t : Bool) {x y : Step} → (t ≡ true → P x) → P y → P (cond t x y)
choose P true f q = f refl
choose P false f q = q

pub bad-stays : (s : Bytes) → text_from None s ≡ false
bad-stays [] = refl
bad-stays (b ∷ s) = bad-stays s

pub text-more : (x y : Step) (i : ℕ) (s : Bytes) → i < length s → y ≡ after x (get_or s i 0)
    → text_from y (drop (i + 1) s) ≡ text_from x (drop i s)
text-more x y i s h e = rw (e, add-one, drop-cons s i 0)

-- With nothing due it is no matter what would be.
pub none-due : (n lo hi : ℕ) → eqb n 0 ≡ true → (s : Bytes) → text_from (awaiting n lo hi) s ≡ text_from char_start s
none-due n lo hi e [] = e
none-due n lo hi e (b ∷ s) =
    let p : after (awaiting n lo hi) b ≡ first_of b = rw e in
    ap (λ (x : Step). text_from x s) p

-- Fewer bytes than are due.
pub cut : (s : Bytes) (d : Due) → length s < d.left → text_from (Some d) s ≡ false
cut [] d h = ne_eqb d.left 0 (omega arith)
cut (b ∷ s) d h =
    let P : Step → Type 0 = λ x. text_from x s ≡ false in
    rw (ne_eqb d.left 0 (omega arith)) (choose P (within d.lo d.hi b) (λ _. cut s _ (omega arith)) (bad-stays s))
