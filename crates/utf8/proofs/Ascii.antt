-- ASCII bytes: what the mask of the top bits says of the bytes of a word. Passing ASCII bytes changes nothing. Assumes nothing.
use Prim.Native.Nat.{ℕ, zero, suc, ◌+◌, ◌*◌, ◌/◌, ◌%◌, ◌≤◌, ◌<◌}
use mathlib.Core.Path.{◌≡◌, refl, sym, ◌∙◌}
use mathlib.Core.Logic.{inl, inr}
use mathlib.Core.Bool.{true, ◌&&◌}
use mathlib.Core.List.{◌∷◌}
use native.Mathlib.Nat.{mod-eq_of_lt}
use native.Mathlib.Omega.{arith}
use lib.Bits.{bit_and, and_block, and_high}
use lib.Dec.{eqb, ltb}
use lib.ListN.{length, get_or, take, drop}
use lib.Seq.{drop-cons}
use borrow.Author.Tests.{lt-ltb, ltb-true, eqb-true, eqb-false, eq-eqb}
use Rattle.slices.specs.Bytes.{Bytes}
use Rattle.slices.proofs.Tests.{Split, split, and_left, and_right, same_test}
use Rattle.words.specs.Words.{le_at}
use Rattle.utf8_char.specs.Text.{char_start}
use Rattle.utf8.specs.Passing.{ascii, Passed}
use Rattle.utf8_char.proofs.Bounds.{first_one, text-more}

-- ---- the mask

-- The top bit of each of n bytes.
abbrev mask : ℕ → ℕ
mask zero = 0
mask (suc n) = mask n * 256 + 128

top_bit : (x : ℕ) → x < 256 → eqb (bit_and x 128) 0 ≡ ltb x 128
top_bit x h =
    let p : x / 128 % 2 ≡ x / 128 = mod-eq_of_lt (omega arith) in
    let y : ℕ = x / 128 * 128 in
    rw (and_high x 1 7, p)
    (same_test (eqb y 0) (ltb x 128)
    (λ e. lt-ltb x 128 (omega (arith, eqb-true y 0 e)))
    (λ e. eq-eqb y 0 (omega (arith, ltb-true x 128 e))))

both_zero : (w r : ℕ) → eqb (w * 256 + r) 0 ≡ (eqb r 0 && eqb w 0)
both_zero w r =
    let x : ℕ = w * 256 + r in
    same_test (eqb x 0) (eqb r 0 && eqb w 0)
    (λ e. let z = eqb-true x 0 e in rw (eq-eqb r 0 (omega arith), eq-eqb w 0 (omega arith)))
    (λ e. eq-eqb x 0 (omega (arith, eqb-true r 0 (and_left (eqb r 0) (eqb w 0) e), eqb-true w 0 (and_right (eqb r 0) (eqb w 0) e))))

-- No top bit in a word of n bytes: they are ASCII, and the other way round.
pub masked : (n : ℕ) (s : Bytes) (b : ℕ) → ((k : ℕ) → get_or s k 0 < 256) → b + n ≤ length s
    → eqb (bit_and (le_at n s b) (mask n)) 0 ≡ ascii (take n (drop b s))
unfolding le_at
masked zero s b h f = refl
masked (suc n) s b h f =
    let x : ℕ = get_or s b 0 in
    let w : ℕ = le_at n s (suc b) in
    let p : x + 256 * w ≡ w * 256 + x = omega arith in
    rw (
      p,
      and_block 8 w (mask n) x 128 (h b) (omega arith),
      both_zero (bit_and w (mask n)) (bit_and x 128),
      top_bit x (h b),
      masked n s (suc b) h (omega arith),
      drop-cons s b 0 (omega arith),
    )

-- ---- passing

pub pass_on : (s : Bytes) (i k r : ℕ) → Passed s i k → Passed s k r → Passed s i r
pass_on s i k r p q = (omega arith, q.1, q.2 ∙ p.2)

pub pass-one : (s : Bytes) (i : ℕ) → i < length s → get_or s i 0 < 0x80 → Passed s i (i + 1)
pass-one s i h p =
    (omega arith, omega arith, text-more char_start char_start i s h (sym (first_one (get_or s i 0) (omega arith))))

-- n ASCII bytes from b on, passed from any of them to their end.
pub pass-run : (n : ℕ) (s : Bytes) (b i : ℕ) → b + n ≤ length s → ascii (take n (drop b s)) ≡ true → b ≤ i → i ≤ b + n
    → Passed s i (b + n)
pass-run zero s b i f e l m = let p : i ≡ b + 0 = omega arith in rw p (omega arith, f, refl)
pass-run (suc n) s b i f e l m =
    let x : ℕ = get_or s b 0 in
    let xs : Bytes = take n (drop (suc b) s) in
    let a : ascii (x ∷ xs) ≡ true = rw (drop-cons s b 0 (omega arith)) at e in
    let first = ltb-true x 0x80 (and_left (ltb x 0x80) (ascii xs) a) in
    let rest = and_right (ltb x 0x80) (ascii xs) a in
    let p : b + suc n ≡ suc b + n = omega arith in
    rw p (go (split (eqb b i)) first (λ j u v. pass-run n s (suc b) j (omega arith) rest u v))
  where
    go : Split (eqb b i) → get_or s b 0 < 0x80 → ((j : ℕ) → suc b ≤ j → j ≤ suc b + n → Passed s j (suc b + n))
        → Passed s i (suc b + n)
    go (inl q) u ih =
        rw (← eqb-true b i q) (pass_on s b _ _ (pass-one s b (omega arith) u) (ih (b + 1) (omega arith) (omega arith)))
    go (inr q) u ih = ih i (omega (arith, eqb-false b i q)) (omega arith)
