-- The head of an IRI ends with its last mark; what follows has none. Assumes nothing.
use Prim.Native.Nat.{ℕ, zero, suc, ◌≤◌, ◌<◌}
use mathlib.Core.Path.{◌≡◌, refl, ◌∙◌}
use mathlib.Core.Logic.{inl, inr}
use mathlib.Core.Bool.{Bool, true, false, cond}
use mathlib.Core.List.{[], ◌∷◌}
use native.Mathlib.Omega.{arith}
use lib.ListN.{length, get_or, take}
use Rattle.slices.specs.Bytes.{Bytes}
use Rattle.slices.proofs.Tests.{Split, split}
use Rattle.ranked_pair_iri_dv_dict.specs.Split.{is_mark, after_mark, head_length, head_from, head_of, length_of}

after-le : (b : Bool) (n m : ℕ) → n ≤ m → after_mark b n ≤ suc m
after-le b (suc n) m h = omega arith
after-le true zero m h = omega arith
after-le false zero m h = omega arith

pub head-le : (s : Bytes) → head_length s ≤ length s
head-le [] = omega arith
head-le (c ∷ s) = after-le (is_mark c) (head_length s) (length s) (head-le s)

-- The head's last byte is a mark.
pub head-mark : (s : Bytes) (n : ℕ) → head_length s ≡ suc n → is_mark (get_or s n 0) ≡ true
head-mark [] n e = absurd (omega arith)
head-mark (c ∷ s) n e = go (head_length s) refl (split (is_mark c)) n e (λ m. head-mark s m)
  where
    go : (h : ℕ) → head_length s ≡ h → Split (is_mark c) → (n : ℕ) → after_mark (is_mark c) (head_length s) ≡ suc n
        → ((m : ℕ) → head_length s ≡ suc m → is_mark (get_or s m 0) ≡ true) → is_mark (get_or (c ∷ s) n 0) ≡ true
    go (suc h) p q zero e ih = let f : suc (suc h) ≡ 1 = rw p at e in absurd (omega arith)
    go (suc h) p q (suc n) e ih = let f : suc (suc h) ≡ suc (suc n) = rw p at e in ih n (p ∙ omega arith)
    go zero p (inl q) zero e ih = q
    go zero p (inl q) (suc n) e ih = let f : 1 ≡ suc (suc n) = rw (p, q) at e in absurd (omega arith)
    go zero p (inr q) n e ih = let f : 0 ≡ suc n = rw (p, q) at e in absurd (omega arith)

-- No byte after the head is a mark.
pub head-rest : (s : Bytes) (i : ℕ) → head_length s ≤ i → i < length s → is_mark (get_or s i 0) ≡ false
head-rest [] i h l = absurd (omega arith)
head-rest (c ∷ s) i h l = go (head_length s) refl (split (is_mark c)) i h l (λ j. head-rest s j)
  where
    go : (k : ℕ) → head_length s ≡ k → Split (is_mark c) → (i : ℕ) → after_mark (is_mark c) (head_length s) ≤ i → i < suc (length s)
        → ((j : ℕ) → head_length s ≤ j → j < length s → is_mark (get_or s j 0) ≡ false) → is_mark (get_or (c ∷ s) i 0) ≡ false
    go (suc k) p q zero h l ih = let f : suc (suc k) ≤ zero = rw p at h in absurd (omega arith)
    go (suc k) p q (suc i) h l ih = let f : suc (suc k) ≤ suc i = rw p at h in ih i (omega arith) (omega arith)
    go zero p q (suc i) h l ih = ih i (omega arith) (omega arith)
    go zero p (inr q) zero h l ih = q
    go zero p (inl q) zero h l ih = let f : 1 ≤ zero = rw (p, q) at h in absurd (omega arith)

length-head : (n : ℕ) → length_of (head_from n) ≡ n
length-head zero = refl
length-head (suc n) = refl

pub head-length : (s : Bytes) → length_of (head_of s) ≡ head_length s
unfolding head_of
head-length s = length-head (head_length s)

-- One byte more at the end: a mark there is the last one.
after-snoc : (b c : Bool) (i n : ℕ) → after_mark b (cond c (suc i) n) ≡ cond c (suc (suc i)) (after_mark b n)
after-snoc b true i n = refl
after-snoc b false i n = refl

after_none : (b : Bool) → after_mark b zero ≡ cond b 1 zero
after_none true = refl
after_none false = refl

pub head-snoc : (s : Bytes) (i : ℕ) → i < length s
    → head_length (take (suc i) s) ≡ cond (is_mark (get_or s i 0)) (suc i) (head_length (take i s))
head-snoc [] i h = absurd (omega arith)
head-snoc (c ∷ s) zero h = after_none (is_mark c)
head-snoc (c ∷ s) (suc i) h =
    rw (head-snoc s i (omega arith)) (after-snoc (is_mark c) (is_mark (get_or s i 0)) i (head_length (take i s)))
