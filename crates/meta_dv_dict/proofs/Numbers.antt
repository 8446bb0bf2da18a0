-- The numbers given: no two are the same. A step changes none of them, and its new number is another one. Assumes nothing.
use Prim.Native.Nat.{ℕ, ◌+◌, ◌*◌, ◌/◌, ◌%◌, ◌^◌, ◌<◌}
use mathlib.Core.Path.{◌≡◌, refl, sym, ap, ◌∙◌}
use mathlib.Core.Logic.{◌≢◌}
use native.Mathlib.Nat.{mod-lt}
use native.Mathlib.Omega.{arith}
use native.Mathlib.Decide.{ℕ_discrete}
use borrow.Author.Tests.{eq-eqb, ne_eqb}
use lib.Pow as Pow
use Rattle.blocks.specs.Blocks.{held, Blocks, took, global, newest}
use Rattle.blocks.specs.Sound.{Sound, May}
use Rattle.blocks.proofs.Steps.{stable, took-sound}

-- A local number that is given is in a local block that is begun.
pub in-begun : (w n m : ℕ) → n < m → n / 2 ^ w * 2 ^ w < m
in-begun w n m h = omega (arith, Pow.split n w)

-- Two local numbers given never share a global one.
pub numbers_apart : (w : ℕ) (b : Blocks) → Sound w b → (k n j m : ℕ) → n < b.next k → m < b.next j
    → global w b k n ≡ global w b j m → (k ≡ j) × (n ≡ m)
numbers_apart w b S k n j m h g e =
    let pk : ℕ = b.block_of k (n / 2 ^ w) in
    let pj : ℕ = b.block_of j (m / 2 ^ w) in
    let ln : n % 2 ^ w < 2 ^ w = mod-lt n (Pow.pow_pos w) in
    let lm : m % 2 ^ w < 2 ^ w = mod-lt m (Pow.pow_pos w) in
    let hi : pk ≡ pj = sym (Pow.high pk w ln) ∙ ap (λ (x : ℕ). x / 2 ^ w) e ∙ Pow.high pj w lm in
    let lo : n % 2 ^ w ≡ m % 2 ^ w = sym (Pow.low pk w ln) ∙ ap (λ (x : ℕ). x % 2 ^ w) e ∙ Pow.low pj w lm in
    let u : held k (n / 2 ^ w) ≡ held j (m / 2 ^ w) =
    sym (S.there k (n / 2 ^ w) (in-begun w n _ h)) ∙ ap b.owner hi ∙ S.there j (m / 2 ^ w) (in-begun w m _ g) in
    let v : k ≡ j = cc in
    let x : n / 2 ^ w ≡ m / 2 ^ w = cc in
    (v, sym (Pow.split n w) ∙ ap (λ (t : ℕ). t * 2 ^ w + n % 2 ^ w) x ∙ ap (λ (t : ℕ). m / 2 ^ w * 2 ^ w + t) lo ∙ Pow.split m w)

-- A local number given is what its global number leads to,
pub to-local : (w : ℕ) (b : Blocks) → Sound w b → (k n : ℕ) → n < b.next k
    → (b.owner (global w b k n / 2 ^ w) ≡ held k (n / 2 ^ w)) × (n / 2 ^ w * 2 ^ w + global w b k n % 2 ^ w ≡ n)
to-local w b S k n h =
    let p : ℕ = b.block_of k (n / 2 ^ w) in
    let lt : n % 2 ^ w < 2 ^ w = mod-lt n (Pow.pow_pos w) in
    (rw (Pow.high p w lt) (S.there k (n / 2 ^ w) (in-begun w n _ h)), rw (Pow.low p w lt) (Pow.split n w))

-- and a number in a held block is the one that its local number has.
pub to-global : (w : ℕ) (b : Blocks) → Sound w b → (x k l : ℕ) → b.owner (x / 2 ^ w) ≡ held k l → global w b k (l * 2 ^ w + x % 2 ^ w) ≡ x
to-global w b S x k l e =
    let lt : x % 2 ^ w < 2 ^ w = mod-lt x (Pow.pow_pos w) in
    rw (Pow.high l w lt, Pow.low l w lt, (S.back (x / 2 ^ w) k l e).1) (Pow.split x w)

module _ (w : ℕ) (b : Blocks) (k g : ℕ) (M : May w b k g) where
  -- A step moves no number.
  pub numbers_stay : (j n : ℕ) → n < b.next j → global w (took w b k g) j n ≡ global w b j n
  numbers_stay j n h = ap (λ (t : ℕ). t * 2 ^ w + n % 2 ^ w) (stable w b k g M j (n / 2 ^ w) (in-begun w n _ h))

  -- It gives the next local number the newest one,
  pub newest-given : global w (took w b k g) k (b.next k) ≡ newest w b k g
  newest-given = rw (eq-eqb k k refl, eq-eqb (b.next k / 2 ^ w) (b.next k / 2 ^ w) refl)

  -- which is no earlier number.
  pub newest-new : Sound w b → (j n : ℕ) → n < b.next j → global w b j n ≢ newest w b k g
  newest-new S j n h e = go (ℕ_discrete k j)
    where
      t : Blocks
      t = took w b k g

      same : n < t.next j → b.next k < t.next k → (j ≡ k) × (n ≡ b.next k)
      same p q = numbers_apart w t (took-sound w b S k g M) j n k (b.next k) p q (numbers_stay j n h ∙ e ∙ sym newest-given)

      last : b.next k < t.next k
      last = rw (eq-eqb k k refl) (omega arith)

      go : Dec (k ≡ j) → ⊥
      go (yes q) =
          let r = same (rw (eq-eqb k j q) (omega (arith, ap b.next q))) last in
          omega (arith, r.1, ap b.next q)
      go (no q) = q (sym (same (rw (ne_eqb k j q) h) last).0)
