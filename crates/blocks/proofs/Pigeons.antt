-- There are at most m different numbers below m. So a kind has at most B local blocks. Assumes nothing.
use Prim.Native.Nat.{ℕ, zero, suc, ◌-◌, ◌*◌, ◌/◌, ◌^◌, ◌<◌, ◌≤◌}
use mathlib.Core.Path.{◌≡◌, refl, sym, ap, ◌∙◌}
use mathlib.Core.Logic.{inl, inr, ◌≢◌}
use mathlib.Core.Bool.{cond}
use mathlib.Core.Option.{some}
use native.Mathlib.Nat.{mul-le-mul_right}
use native.Mathlib.Omega.{arith}
use borrow.Author.Tests.{ltb-true, ltb-false, eq-eqb}
use lib.Dec.{ltb}
use lib.Pow as Pow
use Rattle.slices.proofs.Tests.{Split, split}
use Rattle.layout.specs.declared.Sizes.{Sizes}
use Rattle.blocks.specs.Blocks.{held, Blocks, pick, took}
use Rattle.blocks.specs.Sound.{Sound, Below}
use Rattle.blocks.proofs.Steps.{step-sound}

-- The numbers but v, with no gap where it was.
abbrev without : ℕ → ℕ → ℕ
without v x = cond (ltb x v) x (x - 1)

without-lt : (v x m : ℕ) → x ≢ v → x < suc m → v < suc m → without v x < m
without-lt v x m d h g = go (split (ltb x v))
  where
    go : Split (ltb x v) → without v x < m
    go (inl p) = rw p (omega (arith, ltb-true x v p))
    go (inr p) = rw p (omega (arith, ltb-false x v p))

without-same : (v x y : ℕ) → x ≢ v → y ≢ v → without v x ≡ without v y → x ≡ y
without-same v x y d f e = go (split (ltb x v)) (split (ltb y v))
  where
    go : Split (ltb x v) → Split (ltb y v) → x ≡ y
    go (inl p) (inl q) = rw (p, q) at e
    go (inl p) (inr q) = let r : x ≡ y - 1 = rw (p, q) at e in omega (arith, ltb-true x v p, ltb-false y v q)
    go (inr p) (inl q) = let r : x - 1 ≡ y = rw (p, q) at e in omega (arith, ltb-false x v p, ltb-true y v q)
    go (inr p) (inr q) = let r : x - 1 ≡ y - 1 = rw (p, q) at e in omega (arith, ltb-false x v p, ltb-false y v q)

pub pigeons : (m n : ℕ) (f : ℕ → ℕ) → ((i : ℕ) → i < n → f i < m) → ((i j : ℕ) → i < n → j < n → f i ≡ f j → i ≡ j) → n ≤ m
pigeons m zero f low one = omega arith
pigeons zero (suc n) f low one = absurd (omega (arith, low n (omega arith)))
pigeons (suc m) (suc n) f low one =
    let d : (i : ℕ) → i < n → f i ≢ f n = λ i h e. let z : i ≡ n = one i n (omega arith) (omega arith) e in omega arith in
    let ih : n ≤ m =
    pigeons m n (λ i. without (f n) (f i))
    (λ i h. without-lt (f n) (f i) m (d i h) (low i (omega arith)) (low n (omega arith)))
    (λ i j h g e. one i j (omega arith) (omega arith) (without-same (f n) (f i) (f j) (d i h) (d j g) e)) in
    omega arith

-- A local block that is begun has a word.
pub begun-below : (w n : ℕ) (b : Blocks) (k l : ℕ) → Sound w b → Below n b → l * 2 ^ w < b.next k → l < n
begun-below w n b k l S low h =
    let own : (i : ℕ) → i < suc l → b.owner (b.block_of k i) ≡ held k i =
    λ i g. S.there k i (omega (arith, mul-le-mul_right {m = i} {n = l} (2 ^ w) (omega arith))) in
    pigeons n (suc l) (b.block_of k)
    (λ i g. low (b.block_of k i) k i (own i g))
    (λ i j g f e. let p : held k i ≡ held k j = sym (own i g) ∙ ap b.owner e ∙ own j f in cc)

-- So has the one that a block is picked for.
pub picked-below : (s : Sizes) (b : Blocks) (k g : ℕ) → Sound s.w b → Below s.b b → pick s b k ≡ some g → b.next k / 2 ^ s.w < s.b
picked-below s b k g S low e =
    let r = step-sound s b k g S low e in
    begun-below s.w s.b (took s.w b k g) k (b.next k / 2 ^ s.w) r.0 r.1
    (rw (eq-eqb k k refl) (omega (arith, Pow.split (b.next k) s.w)))
