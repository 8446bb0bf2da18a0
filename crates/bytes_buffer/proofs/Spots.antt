-- The spots of an entry, case by case. Assumes nothing.
use Prim.Native.Nat.{ℕ, ◌+◌, ◌-◌, ◌≤◌, ◌<◌}
use mathlib.Core.Path.{◌≡◌, refl}
use mathlib.Core.Logic.{◌≢◌, inl, inr}
use native.Mathlib.Omega.{arith}
use lib.Dec.{leb, ltb}
use borrow.Author.Tests.{ltb-true, ltb-false, lt-ltb, le-ltb, le-leb, lt-leb, leb-true, eq-eqb, ne_eqb}
use Rattle.std.specs.Prelude.{Ok, Err}
use Rattle.slices.proofs.Tests.{Split, split}
use Rattle.layout.specs.declared.Sizes.{Sizes}
use Rattle.layout.specs.Sizes.{page_size}
use Rattle.layout.specs.Fields.{used_of}
use Rattle.refusals.specs.declared.Refusal.TheVariants.{Unopened, NoPage}
use Rattle.bytes_buffer.specs.declared.Spot.TheVariants.{Current, Next}
use Rattle.bytes_buffer.specs.Spots.{lowest_of, next_of, spot_of, InPages}

-- The answer that names a page is the word itself, which is n at the most.
pub lowest-page : (s : Sizes) (w u : ℕ) → lowest_of s w ≡ Ok u → (u ≡ w) × (u ≤ s.n)
unfolding lowest_of
lowest-page s w u e = go (split (leb w s.n))
  where
    go : Split (leb w s.n) → (u ≡ w) × (u ≤ s.n)
    go (inl p) =
        let q : Ok w ≡ Ok u = rw p at e in
        let r : u ≡ w = cc in
        (r, omega (arith, leb-true w s.n p))
    go (inr p) = let q : Err Unopened ≡ Ok u = rw p at e in let z : ◌≡◌ {A = ℕ} 0 1 = cc in absurd (omega arith)

pub lowest-is : (s : Sizes) (w : ℕ) → w ≤ s.n → lowest_of s w ≡ Ok w
unfolding lowest_of
lowest-is s w h = rw (le-leb w s.n h)

-- ---- one more page

pub next-is : (s : Sizes) (u : ℕ) → u < s.n → next_of s u ≡ Ok (Next u)
unfolding next_of
next-is s u h = rw (lt-ltb u s.n h)

pub next-none : (s : Sizes) (u : ℕ) → s.n ≤ u → next_of s u ≡ Err NoPage
unfolding next_of
next-none s u h = rw (le-ltb u s.n h)

pub next-in : (s : Sizes) (u n : ℕ) → InPages s u n (next_of s u)
unfolding next_of
next-in s u n = go (split (ltb u s.n))
  where
    go : Split (ltb u s.n) → InPages s u n (next_of s u)
    go (inl p) = rw p (refl, ltb-true u s.n p)
    go (inr p) = rw p (inl (refl, ltb-false u s.n p))

-- ---- the current page

module _ (s : Sizes) (c w u n : ℕ) where
  pub spot-first : c ≡ 0 → spot_of s c w u n ≡ next_of s u
  unfolding spot_of
  spot-first h = rw (eq-eqb c 0 h)

  pub spot-foreign : s.n < c → spot_of s c w u n ≡ Err Unopened
  unfolding spot_of
  spot-foreign h = rw (ne_eqb c 0 (omega arith), lt-ltb s.n c h)

  pub spot-overfull : c ≢ 0 → c ≤ s.n → page_size s < used_of w → spot_of s c w u n ≡ Err Unopened
  unfolding spot_of
  spot-overfull z h l = rw (ne_eqb c 0 z, le-ltb s.n c h, lt-ltb (page_size s) (used_of w) l)

  pub spot-current : c ≢ 0 → c ≤ s.n → used_of w + n ≤ page_size s → spot_of s c w u n ≡ Ok (Current (c - 1) (used_of w))
  unfolding spot_of
  spot-current z h l = rw (ne_eqb c 0 z, le-ltb s.n c h, le-ltb (page_size s) (used_of w) (omega arith), le-leb (used_of w + n) (page_size s) l)

  pub spot-next : c ≢ 0 → c ≤ s.n → used_of w ≤ page_size s → page_size s < used_of w + n → spot_of s c w u n ≡ next_of s u
  unfolding spot_of
  spot-next z h k l = rw (ne_eqb c 0 z, le-ltb s.n c h, le-ltb (page_size s) (used_of w) k, lt-leb (used_of w + n) (page_size s) l)
