-- A word without marks: what the masks say of its bytes. Passing them changes no head. Assumes nothing.
use Prim.Native.Nat.{ℕ, zero, suc, ◌+◌, ◌*◌, ◌-◌, ◌≤◌, ◌<◌}
use mathlib.Core.Path.{◌≡◌, refl, sym, ap, ◌∙◌}
use mathlib.Core.Logic.{inl, inr}
use mathlib.Core.Bool.{false}
use native.Mathlib.Omega.{arith}
use lib.Bits.{bit_and, and_block, and_le_r}
use lib.Dec.{eqb}
use lib.ListN.{length, get_or, take, drop}
use lib.Seq.{take-length, get_or-drop}
use borrow.Author.Tests.{eqb-true, eqb-false}
use Rattle.slices.specs.Bytes.{Bytes}
use Rattle.slices.proofs.Tests.{Split, split}
use Rattle.words.specs.Words.{le_at}
use Rattle.ranked_pair_iri_dv_dict.specs.Split.{is_mark, Unmarked, head_length}
use Rattle.ranked_pair_iri_dv_dict.proofs.Laws.{head-snoc}

-- ---- the masks

-- The byte x, n times.
abbrev pub each : ℕ → ℕ → ℕ
each zero x = 0
each (suc n) x = each n x * 256 + x

-- What `has_no_mark` makes of a word, here of n bytes.
abbrev pub tops : ℕ → ℕ → ℕ
tops n w = bit_and (bit_and w (each n 0x50) + each n 0x7F) (each n 0x80)

-- The lowest byte and the others apart: no sum carries out of a byte.
tops-more : (n x w : ℕ) → x < 256 → tops (suc n) (x + 256 * w) ≡ tops n w * 256 + tops 1 x
tops-more n x w h =
    let a : ℕ = bit_and w (each n 0x50) in
    let c : ℕ = bit_and x 0x50 in
    let l = and_le_r x 0x50 in
    let p : x + 256 * w ≡ w * 256 + x = omega arith in
    let q : a * 256 + c + (each n 0x7F * 256 + 0x7F) ≡ (a + each n 0x7F) * 256 + (c + 0x7F) = omega arith in
    rw (
      p,
      and_block 8 w (each n 0x50) x 0x50 h (omega arith),
      q,
      and_block 8 (a + each n 0x7F) (each n 0x80) (c + 0x7F) 0x80 (omega arith) (omega arith),
    )

-- A byte with its top set is no mark, which has none of the bits.
no-mark : (x : ℕ) → tops 1 x ≡ 0x80 → is_mark x ≡ false
no-mark x t = go (split (eqb x 47)) (split (eqb x 35))
  where
    go : Split (eqb x 47) → Split (eqb x 35) → is_mark x ≡ false
    go (inl p) q = let z : ◌≡◌ {A = ℕ} 0 0x80 = rw (eqb-true x 47 p) at t in absurd (omega arith)
    go (inr p) (inl q) = let z : ◌≡◌ {A = ℕ} 0 0x80 = rw (eqb-true x 35 q) at t in absurd (omega arith)
    go (inr p) (inr q) = rw (p, q) refl

-- All tops set in a word of n bytes: none of them is a mark.
pub no-marks : (n : ℕ) (s : Bytes) (b : ℕ) → ((k : ℕ) → get_or s k 0 < 256) → tops n (le_at n s b) ≡ each n 0x80
    → Unmarked s b (b + n)
unfolding le_at
no-marks zero s b h e i u v = absurd (omega arith)
no-marks (suc n) s b h e i u v =
    let x : ℕ = get_or s b 0 in
    let w : ℕ = le_at n s (suc b) in
    let t : tops n w * 256 + tops 1 x ≡ each n 0x80 * 256 + 0x80 = sym (tops-more n x w (h b)) ∙ e in
    let l : tops 1 x ≤ 0x80 = and_le_r (bit_and x 0x50 + 0x7F) 0x80 in
    go (split (eqb b i)) (no-mark x (omega arith)) (λ f. no-marks n s (suc b) h (omega arith) i f (omega arith))
  where
    go : Split (eqb b i) → is_mark (get_or s b 0) ≡ false → (suc b ≤ i → is_mark (get_or s i 0) ≡ false) → is_mark (get_or s i 0) ≡ false
    go (inl q) p ih = rw (← eqb-true b i q) p
    go (inr q) p ih = ih (omega (arith, eqb-false b i q))

-- ---- passing

-- The last n bytes have no part in the head if none of them is a mark.
pub unmarked-head : (n r : ℕ) (s : Bytes) → r + n ≡ length s → Unmarked s r (length s) → head_length (take r s) ≡ head_length s
unmarked-head zero r s e u = let p : r ≡ length s = omega arith in rw p (ap head_length (take-length s))
unmarked-head (suc n) r s e u =
    let p : head_length (take (suc r) s) ≡ head_length (take r s) = head-snoc s r (omega arith) ∙ rw (u r (omega arith) (omega arith)) refl in
    sym p ∙ unmarked-head n (suc r) s (omega arith) (λ i a b. u i (omega arith) b)

-- The last n bytes, as a list of their own.
pub part-head : (n : ℕ) (s part : Bytes) → n ≤ length s → part ≡ drop (length s - n) s → Unmarked part 0 n
    → head_length (take (length s - n) s) ≡ head_length s
part-head n s part h e u =
    let r : ℕ = length s - n in
    unmarked-head n r s (omega arith) (λ i a b.
    let j : r + (i - r) ≡ i = omega arith in
    let q : is_mark (get_or (drop r s) (i - r) 0) ≡ false = rw (← e) (u (i - r) (omega arith) (omega arith)) in
    rw (get_or-drop r s (i - r) 0, j) at q)
