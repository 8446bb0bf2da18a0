-- The test and the grammar agree on every run of bytes: what is accepted is derived, and what is derived is accepted. Assumes nothing.
use Prim.Native.Nat.{ℕ, zero, suc, ◌-◌, ◌≤◌}
use mathlib.Core.Path.{◌≡◌, refl, sym, ap, ◌∙◌}
use mathlib.Core.Bool.{true, false≢true}
use mathlib.Core.List.{[], ◌∷◌, ◌++◌}
use native.Mathlib.Omega.{arith}
use lib.Dec.{eqb}
use borrow.Author.Tests.{eqb-true, ne_eqb}
use Rattle.std.specs.Prelude.{None}
use Rattle.slices.specs.Bytes.{Bytes}
use Rattle.slices.proofs.Tests.{clash}
use Rattle.utf8_char.specs.Grammar.{In, Tail, Char, one, two, three-e0, three-e1-ec, three-ed, three-ee-ef, four-f0, four-f1-f3, four-f4, Octets, none, more}
use Rattle.utf8_char.specs.Text.{Step, awaiting, within, char_start, first_of, after, text_from, is_text}
use Rattle.utf8_char.proofs.Bounds.{inside, below, above, bounds, first_one, first_two, first-e1-ec, first-ee-ef, first-f1-f3, choose, bad-stays}

-- ---- accepted, so derived

-- n tail bytes, the first of them from lo to hi, and characters after them
data Rest : ℕ → ℕ → ℕ → Bytes → Type 0 where
  whole : {lo hi : ℕ} {s : Bytes} → Octets s → Rest zero lo hi s
  tail : {n lo hi b : ℕ} {s : Bytes} → In lo hi b → Rest n 0x80 0xBF s → Rest (suc n) lo hi (b ∷ s)

then_one : {a : ℕ} {s : Bytes} → In 0x00 0x7F a → Rest 0 0x80 0xBF s → Octets (a ∷ s)
then_one p (whole r) = more (one p) r

then-two : {a : ℕ} {s : Bytes} → In 0xC2 0xDF a → Rest 1 0x80 0xBF s → Octets (a ∷ s)
then-two p (tail q (whole r)) = more (two p q) r

then-three : {a lo hi : ℕ} {s : Bytes} → ((b c : ℕ) → In lo hi b → Tail c → Char (a ∷ b ∷ c ∷ []))
    → Rest 2 lo hi s → Octets (a ∷ s)
then-three f (tail q (tail u (whole r))) = more (f _ _ q u) r

then-four : {a lo hi : ℕ} {s : Bytes} → ((b c d : ℕ) → In lo hi b → Tail c → Tail d → Char (a ∷ b ∷ c ∷ d ∷ []))
    → Rest 3 lo hi s → Octets (a ∷ s)
then-four f (tail q (tail u (tail v (whole r)))) = more (f _ _ _ q u v) r

begins : (b : ℕ) (s : Bytes) → ((n lo hi : ℕ) → text_from (awaiting n lo hi) s ≡ true → Rest n lo hi s)
    → text_from (first_of b) s ≡ true → Octets (b ∷ s)
unfolding first_of
begins b s ih =
    let P : Step → Type 0 = λ x. text_from x s ≡ true → Octets (b ∷ s) in
    choose P (within 0x00 0x7F b) (λ p e. then_one (bounds _ _ _ p) (ih _ _ _ e))
    (choose P (within 0xC2 0xDF b) (λ p e. then-two (bounds _ _ _ p) (ih _ _ _ e))
    (choose P (eqb b 0xE0) (λ p e. rw (eqb-true b 0xE0 p) (then-three (λ b c. three-e0) (ih _ _ _ e)))
    (choose P (within 0xE1 0xEC b) (λ p e. then-three (λ b c. three-e1-ec (bounds _ _ _ p)) (ih _ _ _ e))
    (choose P (eqb b 0xED) (λ p e. rw (eqb-true b 0xED p) (then-three (λ b c. three-ed) (ih _ _ _ e)))
    (choose P (within 0xEE 0xEF b) (λ p e. then-three (λ b c. three-ee-ef (bounds _ _ _ p)) (ih _ _ _ e))
    (choose P (eqb b 0xF0) (λ p e. rw (eqb-true b 0xF0 p) (then-four (λ b c d. four-f0) (ih _ _ _ e)))
    (choose P (within 0xF1 0xF3 b) (λ p e. then-four (λ b c d. four-f1-f3 (bounds _ _ _ p)) (ih _ _ _ e))
    (choose P (eqb b 0xF4) (λ p e. rw (eqb-true b 0xF4 p) (then-four (λ b c d. four-f4) (ih _ _ _ e)))
    (λ e. clash e (bad-stays s))))))))))

goes_on : (n lo hi b : ℕ) (s : Bytes) → (text_from (awaiting n 0x80 0xBF) s ≡ true → Rest n 0x80 0xBF s)
    → text_from (awaiting (suc n) lo hi) (b ∷ s) ≡ true → Rest (suc n) lo hi (b ∷ s)
goes_on n lo hi b s ih e =
    let P : Step → Type 0 = λ x. text_from x s ≡ true → Rest (suc n) lo hi (b ∷ s) in
    let m : suc n - 1 ≡ n = omega arith in
    choose P (within lo hi b) (λ p f. tail (bounds lo hi b p) (ih (rw m at f))) (λ f. clash f (bad-stays s))
    (rw (ne_eqb (suc n) 0 (omega arith)) at e)

derives-from : (s : Bytes) (n lo hi : ℕ) → text_from (awaiting n lo hi) s ≡ true → Rest n lo hi s
derives-from [] zero lo hi e = whole none
derives-from [] (suc n) lo hi e = let z : suc n ≡ 0 = eqb-true (suc n) 0 e in absurd (omega arith)
derives-from (b ∷ s) zero lo hi e = whole (begins b s (derives-from s) e)
derives-from (b ∷ s) (suc n) lo hi e = goes_on n lo hi b s (derives-from s n 0x80 0xBF) e

octets : {s : Bytes} → Rest 0 0x80 0xBF s → Octets s
octets (whole r) = r

pub derives : (s : Bytes) → is_text s ≡ true → Octets s
unfolding is_text
derives s e = octets (derives-from s 0 0x80 0xBF e)

-- ---- derived, so accepted

tail-1 : (lo hi b : ℕ) → In lo hi b → after (awaiting 1 lo hi) b ≡ char_start
tail-1 lo hi b q = rw (inside lo hi b q)

tail-2 : (lo hi b c : ℕ) → In lo hi b → Tail c → after (after (awaiting 2 lo hi) b) c ≡ char_start
tail-2 lo hi b c q u = rw (inside lo hi b q) (tail-1 0x80 0xBF c u)

tail-3 : (lo hi b c d : ℕ) → In lo hi b → Tail c → Tail d → after (after (after (awaiting 3 lo hi) b) c) d ≡ char_start
tail-3 lo hi b c d q u v = rw (inside lo hi b q) (tail-2 0x80 0xBF c d u v)

-- A character leaves nothing due.
pub char-text : {c : Bytes} → Char c → (s : Bytes) → is_text (c ++ s) ≡ is_text s
unfolding is_text first_of
char-text (one {a} p) s = ap (λ (x : Step). text_from x s) (first_one a p)
char-text (two {a} {b} p q) s = ap (λ (x : Step). text_from x s) (ap (λ (x : Step). after x b) (first_two a p) ∙ tail-1 _ _ b q)
char-text (three-e0 {b} {c} q u) s = ap (λ (x : Step). text_from x s) (tail-2 0xA0 0xBF b c q u)
char-text (three-e1-ec {a} {b} {c} p q u) s =
    ap (λ (x : Step). text_from x s) (ap (λ (x : Step). after (after x b) c) (first-e1-ec a p) ∙ tail-2 _ _ b c q u)
char-text (three-ed {b} {c} q u) s = ap (λ (x : Step). text_from x s) (tail-2 0x80 0x9F b c q u)
char-text (three-ee-ef {a} {b} {c} p q u) s =
    ap (λ (x : Step). text_from x s) (ap (λ (x : Step). after (after x b) c) (first-ee-ef a p) ∙ tail-2 _ _ b c q u)
char-text (four-f0 {b} {c} {d} q u v) s = ap (λ (x : Step). text_from x s) (tail-3 0x90 0xBF b c d q u v)
char-text (four-f1-f3 {a} {b} {c} {d} p q u v) s =
    ap (λ (x : Step). text_from x s)
    (ap (λ (x : Step). after (after (after x b) c) d) (first-f1-f3 a p) ∙ tail-3 _ _ b c d q u v)
char-text (four-f4 {b} {c} {d} q u v) s = ap (λ (x : Step). text_from x s) (tail-3 0x80 0x8F b c d q u v)

pub derived-is-text : {s : Bytes} → Octets s → is_text s ≡ true
unfolding is_text
derived-is-text none = refl
derived-is-text (more {c} {s} h r) = char-text h s ∙ derived-is-text r

-- ---- what the grammar is known to rule out

-- Bytes that no character begins with derive nothing, whatever follows.
refused : (a b : ℕ) (s : Bytes) → after (first_of a) b ≡ None → Octets (a ∷ b ∷ s) → ⊥
unfolding is_text
refused a b s e o = false≢true (sym (ap (λ (x : Step). text_from x s) e ∙ bad-stays s) ∙ derived-is-text o)

-- U+D800 to U+DFFF.
pub no_surrogate : (b : ℕ) (s : Bytes) → 0xA0 ≤ b → Octets (0xED ∷ b ∷ s) → ⊥
unfolding first_of
no_surrogate b s p = refused 0xED b s (rw (above 0x80 0x9F b p))

-- U+110000 and up.
pub none_above : (b : ℕ) (s : Bytes) → 0x90 ≤ b → Octets (0xF4 ∷ b ∷ s) → ⊥
unfolding first_of
none_above b s p = refused 0xF4 b s (rw (above 0x80 0x8F b p))

-- Three bytes where two would do.
pub no-overlong : (b : ℕ) (s : Bytes) → b ≤ 0x9F → Octets (0xE0 ∷ b ∷ s) → ⊥
unfolding first_of
no-overlong b s p = refused 0xE0 b s (rw (below 0xA0 0xBF b (omega arith)))
