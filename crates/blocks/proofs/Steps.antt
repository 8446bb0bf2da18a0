-- A step keeps the tables sound, from any sound state; blocks in use stay; what the rule picks may be taken. Assumes nothing.
use Prim.Native.Nat.{ℕ, zero, suc, ◌+◌, ◌-◌, ◌*◌, ◌/◌, ◌%◌, ◌^◌, ◌<◌, ◌≤◌}
use mathlib.Core.Path.{◌≡◌, refl, sym, ap, ◌∙◌}
use mathlib.Core.Logic.{inl, inr, ◌≢◌}
use native.Mathlib.Nat.{mul-div_cancel}
use native.Mathlib.Omega.{arith}
use mathlib.Core.List.{List, [], ◌∷◌}
use mathlib.Core.Option.{Option, none, some}
use native.Mathlib.Decide.{ℕ_discrete}
use borrow.Author.Tests.{eqb-true, eqb-false, eq-eqb, ne_eqb}
use lib.Dec.{eqb}
use lib.Pow as Pow
use Rattle.slices.proofs.Tests.{Split, split}
use Rattle.layout.specs.declared.Sizes.{Sizes}
use Rattle.blocks.specs.Blocks.{Block, free, held, Blocks, no_blocks, search, start, pick, took, took_picked, blocks_after}
use Rattle.blocks.specs.Sound.{Sound, Below, May, begins, goes_on}

module _ (w : ℕ) (b : Blocks) (S : Sound w b) (k g : ℕ) where
  -- A block held by another local block is not g.
  not-g : May w b k g → (j l : ℕ) → l * 2 ^ w < b.next j → (j ≡ k → l ≡ b.next k / 2 ^ w → ⊥) → g ≢ b.block_of j l
  not-g (begins z f) j l h d e =
      let p : b.owner (b.block_of j l) ≡ held j l = S.there j l h in
      let q : free ≡ held j l = sym f ∙ ap b.owner e ∙ p in
      let z : ◌≡◌ {A = ℕ} 0 1 = cc in absurd (omega arith)
  not-g (goes_on z f) j l h d e =
      let p : b.owner (b.block_of j l) ≡ held j l = S.there j l h in
      let u : b.next k / 2 ^ w * 2 ^ w < b.next k = omega (arith, Pow.split (b.next k) w) in
      let r : b.owner (b.block_of k (b.next k / 2 ^ w)) ≡ held k (b.next k / 2 ^ w) = S.there k (b.next k / 2 ^ w) u in
      let q : held k (b.next k / 2 ^ w) ≡ held j l = sym r ∙ ap b.owner (f ∙ e) ∙ p in
      let v : j ≡ k = cc in
      let x : l ≡ b.next k / 2 ^ w = cc in
      d v x

  there' : May w b k g → (j l : ℕ) → l * 2 ^ w < (took w b k g).next j → (took w b k g).owner ((took w b k g).block_of j l) ≡ held j l
  there' m j l h = go (ℕ_discrete k j)
    where
      go : Dec (k ≡ j) → (took w b k g).owner ((took w b k g).block_of j l) ≡ held j l
      go (no q) =
          let h' : l * 2 ^ w < b.next j = rw (ne_eqb k j q) at h in
          rw (ne_eqb k j q, ne_eqb g (b.block_of j l) (not-g m j l h' (λ e. absurd (q (sym e))))) (S.there j l h')
      go (yes q) = inner (ℕ_discrete (b.next k / 2 ^ w) l)
        where
          inner : Dec (b.next k / 2 ^ w ≡ l) → (took w b k g).owner ((took w b k g).block_of j l) ≡ held j l
          inner (yes x) = rw (eq-eqb k j q, eq-eqb (b.next k / 2 ^ w) l x, eq-eqb g g refl) (cc)
          inner (no x) =
              let h' : l * 2 ^ w < suc (b.next k) = rw (eq-eqb k j q) at h in
              let y : l * 2 ^ w ≢ b.next k = λ e. x (rw (← e) (mul-div_cancel l (Pow.pow_pos w))) in
              let h2 : l * 2 ^ w < b.next k = omega arith in
              let ne : g ≢ b.block_of k l = not-g m k l h2 (λ e1 e2. x (sym e2)) in
              rw (eq-eqb k j q, ne_eqb (b.next k / 2 ^ w) l x, ne_eqb g (b.block_of k l) ne) (S.there k l h2 ∙ ap (λ (i : ℕ). held i l) q)

  back' : May w b k g → (i j l : ℕ) → (took w b k g).owner i ≡ held j l → (l * 2 ^ w < (took w b k g).next j) × ((took w b k g).block_of j l ≡ i)
  back' m i j l h = go (ℕ_discrete g i)
    where
      go : Dec (g ≡ i) → (l * 2 ^ w < (took w b k g).next j) × ((took w b k g).block_of j l ≡ i)
      go (yes q) =
          let e : held k (b.next k / 2 ^ w) ≡ held j l = rw (eq-eqb g i q) at h in
          let u : k ≡ j = cc in
          let v : b.next k / 2 ^ w ≡ l = cc in
          (rw (← v, eq-eqb k j u) (omega (arith, Pow.split (b.next k) w)), rw (eq-eqb k j u, eq-eqb (b.next k / 2 ^ w) l v) q)
      go (no q) =
          let e : b.owner i ≡ held j l = rw (ne_eqb g i q) at h in
          let r = S.back i j l e in
          rest r.0 r.1 (ℕ_discrete k j) (ℕ_discrete (b.next k / 2 ^ w) l) m
        where
          rest : l * 2 ^ w < b.next j → b.block_of j l ≡ i → Dec (k ≡ j) → Dec (b.next k / 2 ^ w ≡ l) → May w b k g
              → (l * 2 ^ w < (took w b k g).next j) × ((took w b k g).block_of j l ≡ i)
          rest a c (no x) y m = (rw (ne_eqb k j x) a, rw (ne_eqb k j x) c)
          rest a c (yes x) (no y) m =
              let a' : l * 2 ^ w < b.next k = rw x a in
              (rw (eq-eqb k j x) (omega arith), rw (eq-eqb k j x, ne_eqb (b.next k / 2 ^ w) l y) (ap (λ (t : ℕ). b.block_of t l) x ∙ c))
          rest a c (yes x) (yes y) (begins z f) =
              let a' : l * 2 ^ w < b.next k = rw x a in
              let a2 : b.next k / 2 ^ w * 2 ^ w < b.next k = rw y a' in
              absurd (omega (arith, Pow.split (b.next k) w))
          rest a c (yes x) (yes y) (goes_on z f) =
              absurd (q (sym f ∙ ap (λ (t : ℕ). b.block_of k t) y ∙ ap (λ (t : ℕ). b.block_of t l) x ∙ c))

  pub took-sound : May w b k g → Sound w (took w b k g)
  took-sound m = record { there = there' m; back = back' m }

-- What the search finds is free and in its range.
pub search-free : (t : ℕ → Block) (g n i : ℕ) → search t g n ≡ some i → (t i ≡ free) × (g ≤ i) × (i < g + n)
search-free t g zero i e = let z : ◌≡◌ {A = ℕ} 0 1 = cc in absurd (omega arith)
search-free t g (suc n) i e = go (t g) refl (search-free t (suc g) n i)
  where
    go : (o : Block) → t g ≡ o → (search t (suc g) n ≡ some i → (t i ≡ free) × (suc g ≤ i) × (i < suc g + n)) → (t i ≡ free) × (g ≤ i) × (i < g + suc n)
    go free p ih =
        let q : some g ≡ some i = rw p at e in
        let u : g ≡ i = cc in
        (rw (← u) p, omega arith, omega arith)
    go (held k l) p ih =
        let q : search t (suc g) n ≡ some i = rw p at e in
        let r = ih q in
        (r.0, omega (arith, r.1), omega (arith, r.2))

-- A local block in use stays where it is.
pub stable : (w : ℕ) (b : Blocks) (k g : ℕ) → May w b k g → (j l : ℕ) → l * 2 ^ w < b.next j → (took w b k g).block_of j l ≡ b.block_of j l
stable w b k g m j l h = go (ℕ_discrete k j) (ℕ_discrete (b.next k / 2 ^ w) l) m
  where
    go : Dec (k ≡ j) → Dec (b.next k / 2 ^ w ≡ l) → May w b k g → (took w b k g).block_of j l ≡ b.block_of j l
    go (no q) d m = rw (ne_eqb k j q)
    go (yes q) (no x) m = rw (eq-eqb k j q, ne_eqb (b.next k / 2 ^ w) l x) (ap (λ (t : ℕ). b.block_of t l) q)
    go (yes q) (yes x) (begins z f) =
        let h' : l * 2 ^ w < b.next k = rw q h in
        let h2 : b.next k / 2 ^ w * 2 ^ w < b.next k = rw x h' in
        absurd (omega (arith, Pow.split (b.next k) w))
    go (yes q) (yes x) (goes_on z f) =
        rw (eq-eqb k j q, eq-eqb (b.next k / 2 ^ w) l x) (sym f ∙ ap (λ (t : ℕ). b.block_of k t) x ∙ ap (λ (t : ℕ). b.block_of t l) q)

-- What the rule picks may be taken, and is below B.
pub picked : (s : Sizes) (b : Blocks) (k g : ℕ) → Sound s.w b → Below s.b b → pick s b k ≡ some g
    → May s.w b k g × (g < s.b)
unfolding pick
picked s b k g S low e = go (split (eqb (b.next k % 2 ^ s.w) zero))
  where
    go : Split (eqb (b.next k % 2 ^ s.w) zero) → May s.w b k g × (g < s.b)
    go (inl p) =
        let f : ℕ = start b k (b.next k / 2 ^ s.w) in
        let q : search b.owner f (s.b - f) ≡ some g = rw p at e in
        let r = search-free b.owner f (s.b - f) g q in
        (begins (eqb-true (b.next k % 2 ^ s.w) zero p) r.0, omega (arith, r.1, r.2))
    go (inr p) =
        let q : some (b.block_of k (b.next k / 2 ^ s.w)) ≡ some g = rw p at e in
        let u : b.block_of k (b.next k / 2 ^ s.w) ≡ g = cc in
        let z : b.next k % 2 ^ s.w ≢ 0 = eqb-false (b.next k % 2 ^ s.w) zero p in
        let h : b.next k / 2 ^ s.w * 2 ^ s.w < b.next k = omega (arith, Pow.split (b.next k) s.w) in
        (goes_on z u, rw (← u) (low (b.block_of k (b.next k / 2 ^ s.w)) k (b.next k / 2 ^ s.w) (S.there k (b.next k / 2 ^ s.w) h)))

-- ---- one step of the rule

took-below : (w n : ℕ) (b : Blocks) (k g : ℕ) → g < n → Below n b → Below n (took w b k g)
took-below w n b k g h low i j l e = go (ℕ_discrete g i)
  where
    go : Dec (g ≡ i) → i < n
    go (yes q) = omega arith
    go (no q) = low i j l (rw (ne_eqb g i q) at e)

pub step-sound : (s : Sizes) (b : Blocks) (k g : ℕ) → Sound s.w b → Below s.b b → pick s b k ≡ some g
    → Sound s.w (took s.w b k g) × Below s.b (took s.w b k g)
step-sound s b k g S low e =
    let p = picked s b k g S low e in
    (took-sound s.w b S k g p.0, took-below s.w s.b b k g p.1 low)

-- Steps for kinds in order, newest first, from any sound state.
pub steps-sound : (s : Sizes) (b : Blocks) → Sound s.w b → Below s.b b → (ks : List ℕ)
    → Sound s.w (blocks_after s b ks) × Below s.b (blocks_after s b ks)
steps-sound s b S low [] = (S, low)
steps-sound s b S low (k ∷ ks) =
    let t : Blocks = blocks_after s b ks in
    go t (steps-sound s b S low ks) (pick s t k) refl
  where
    go : (t : Blocks) → Sound s.w t × Below s.b t → (o : Option ℕ) → pick s t k ≡ o
        → Sound s.w (took_picked s.w t k o) × Below s.b (took_picked s.w t k o)
    go t r none e = r
    go t r (some g) e = step-sound s t k g r.0 r.1 e

-- ---- the opened state

pub not-held : {A : Type 0} {k l : ℕ} → free ≡ held k l → A
not-held e = let z : ◌≡◌ {A = ℕ} 0 1 = cc in absurd (omega arith)

pub opened-sound : (w n : ℕ) → Sound w no_blocks × Below n no_blocks
opened-sound w n = (
  record { there = λ k l h. absurd (omega arith); back = λ g k l e. not-held e },
  λ g k l e. not-held e,
)
