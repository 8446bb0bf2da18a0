-- The shared space: what an entry takes of it. Assumes nothing.
use Prim.Native.Nat.{ℕ, zero, suc, ◌+◌, ◌*◌, ◌^◌, ◌≤◌, ◌<◌}
use mathlib.Core.Path.{◌≡◌, refl, ap}
use mathlib.Core.Logic.{◌≢◌, inl, inr}
use mathlib.Core.Bool.{true, false}
use native.Mathlib.Nat.{suc-mul}
use native.Mathlib.Omega.{arith}
use native.Mathlib.Decide.{ℕ_discrete}
use lib.Dec.{ltb}
use borrow.Author.Tests.{ltb-true, leb-true, leb-false, lt-ltb, le-ltb, le-leb, eq-eqb, ne_eqb}
use Rattle.slices.proofs.Tests.{Split, split, and_left, and_right}
use Rattle.layout.specs.declared.Sizes.{Sizes}
use Rattle.layout.specs.Sizes.{dictionaries, page_size}
use Rattle.bytes_buffer.specs.Pages.{Space, no_space, fits, grown, grown_at, sum, all_pages}

pub size_is : (s : Sizes) → page_size s ≡ 2 ^ s.p
unfolding page_size
size_is s = refl

-- ---- does it fit?

pub fits-facts : (p : ℕ) (x : Space) (n : ℕ) → fits p x n ≡ true → (0 < x.taken) × (x.used + n ≤ 2 ^ p)
unfolding fits
fits-facts p x n e = (ltb-true zero x.taken (and_left (ltb zero x.taken) _ e), leb-true (x.used + n) (2 ^ p) (and_right (ltb zero x.taken) _ e))

pub facts-fit : (p : ℕ) (x : Space) (n : ℕ) → 0 < x.taken → x.used + n ≤ 2 ^ p → fits p x n ≡ true
unfolding fits
facts-fit p x n t l = rw (lt-ltb zero x.taken t, le-leb (x.used + n) (2 ^ p) l)

pub over-unfit : (p : ℕ) (x : Space) (n : ℕ) → fits p x n ≡ false → 0 < x.taken → 2 ^ p < x.used + n
unfolding fits
over-unfit p x n e t = leb-false (x.used + n) (2 ^ p) (rw (lt-ltb zero x.taken t) at e)

-- Without a page nothing fits, an empty entry neither.
pub pageless-unfit : (p : ℕ) (x : Space) (n : ℕ) → x.taken ≡ zero → fits p x n ≡ false
unfolding fits
pageless-unfit p x n e = rw (le-ltb zero x.taken (omega arith))

-- Exactly full is allowed, and an empty entry stays in a page that is exactly full.
pub full-fits : (p : ℕ) (x : Space) (n : ℕ) → 0 < x.taken → x.used + n ≡ 2 ^ p → fits p x n ≡ true
full-fits p x n t e = facts-fit p x n t (omega arith)

pub empty-stays : (p : ℕ) (x : Space) → 0 < x.taken → x.used ≡ 2 ^ p → fits p x 0 ≡ true
empty-stays p x t e = full-fits p x 0 t (omega arith)

-- ---- what an entry takes

pub grown-fit : (p : ℕ) (x : Space) (n : ℕ) → fits p x n ≡ true → ((grown p x n).taken ≡ x.taken) × ((grown p x n).used ≡ x.used + n)
unfolding grown
grown-fit p x n e = (rw e, rw e)

pub grown-unfit : (p : ℕ) (x : Space) (n : ℕ) → fits p x n ≡ false → ((grown p x n).taken ≡ suc x.taken) × ((grown p x n).used ≡ n)
unfolding grown
grown-unfit p x n e = (rw e, rw e)

-- A dictionary without a page takes one, even for an empty entry.
pub first-takes : (p d n : ℕ) → grown p (no_space d) n ≡ record { taken = 1; used = n }
unfolding grown
first-takes p d n = rw (pageless-unfit p (no_space d) n refl)

pub grown-taken : (p : ℕ) (x : Space) (n : ℕ) → 0 < (grown p x n).taken
grown-taken p x n = go (split (fits p x n))
  where
    go : Split (fits p x n) → 0 < (grown p x n).taken
    go (inl e) = omega (arith, grown-fit p x n e, fits-facts p x n e)
    go (inr e) = omega (arith, grown-unfit p x n e)

pub grown-used : (p : ℕ) (x : Space) (n : ℕ) → n ≤ 2 ^ p → (grown p x n).used ≤ 2 ^ p
grown-used p x n h = go (split (fits p x n))
  where
    go : Split (fits p x n) → (grown p x n).used ≤ 2 ^ p
    go (inl e) = omega (arith, grown-fit p x n e, fits-facts p x n e)
    go (inr e) = omega (arith, grown-unfit p x n e)

pub grown-same : (s : Sizes) (sp : ℕ → Space) (d n : ℕ) → grown_at s sp d n d ≡ grown s.p (sp d) n
unfolding grown_at
grown-same s sp d n = rw (eq-eqb d d refl)

pub grown-other : (s : Sizes) (sp : ℕ → Space) (d n e : ℕ) → e ≢ d → grown_at s sp d n e ≡ sp e
unfolding grown_at
grown-other s sp d n e h = rw (ne_eqb d e (λ q. h (omega arith)))

-- ---- all pages

pub sum_same : (f g : ℕ → ℕ) (n : ℕ) → ((e : ℕ) → e < n → f e ≡ g e) → sum f n ≡ sum g n
sum_same f g zero h = refl
sum_same f g (suc n) h = omega (arith, sum_same f g n (λ e l. h e (omega arith)), h n (omega arith))

-- Two functions that differ at d alone.
sum-change : (f g : ℕ → ℕ) (d n : ℕ) → d < n → ((e : ℕ) → e ≢ d → f e ≡ g e) → sum f n + g d ≡ sum g n + f d
sum-change f g d zero l h = absurd (omega arith)
sum-change f g d (suc n) l h = go (ℕ_discrete n d) (sum-change f g d n)
  where
    go : Dec (n ≡ d) → (d < n → ((e : ℕ) → e ≢ d → f e ≡ g e) → sum f n + g d ≡ sum g n + f d) → sum f (suc n) + g d ≡ sum g (suc n) + f d
    go (yes e) ih = omega (arith, sum_same f g n (λ k m. h k (omega arith)), ap f e, ap g e)
    go (no q) ih = omega (arith, ih (omega arith) h, h n q)

pub sum-most : (f : ℕ → ℕ) (e n : ℕ) → ((k : ℕ) → k < n → f k ≤ e) → sum f n ≤ n * e
sum-most f e zero h = omega arith
sum-most f e (suc n) h = omega (arith, suc-mul n e, sum-most f e n (λ k l. h k (omega arith)), h n (omega arith))

sum-part : (f : ℕ → ℕ) (d n : ℕ) → d < n → f d ≤ sum f n
sum-part f d zero l = absurd (omega arith)
sum-part f d (suc n) l = go (ℕ_discrete n d) (sum-part f d n)
  where
    go : Dec (n ≡ d) → (d < n → f d ≤ sum f n) → f d ≤ sum f (suc n)
    go (yes e) ih = omega (arith, ap f e)
    go (no q) ih = omega (arith, ih (omega arith))

pub none-taken : all_pages no_space ≡ zero
unfolding all_pages
none-taken = refl

pub taken-most : (sp : ℕ → Space) (d : ℕ) → d < dictionaries → (sp d).taken ≤ all_pages sp
unfolding all_pages
taken-most sp d l = sum-part (λ e. (sp e).taken) d dictionaries l

all_grown : (s : Sizes) (sp : ℕ → Space) (d n : ℕ) → d < dictionaries → all_pages (grown_at s sp d n) + (sp d).taken ≡ all_pages sp + (grown s.p (sp d) n).taken
unfolding all_pages
all_grown s sp d n l =
    omega (
      arith,
      sum-change (λ e. (grown_at s sp d n e).taken) (λ e. (sp e).taken) d dictionaries l (λ e h. ap (λ (x : Space). x.taken) (grown-other s sp d n e h)),
      ap (λ (x : Space). x.taken) (grown-same s sp d n),
    )

-- An entry that fits takes no page, every other one page.
pub pages-fit : (s : Sizes) (sp : ℕ → Space) (d n : ℕ) → d < dictionaries → fits s.p (sp d) n ≡ true → all_pages (grown_at s sp d n) ≡ all_pages sp
pages-fit s sp d n l e = omega (arith, all_grown s sp d n l, grown-fit s.p (sp d) n e)

pub pages-unfit : (s : Sizes) (sp : ℕ → Space) (d n : ℕ) → d < dictionaries → fits s.p (sp d) n ≡ false → all_pages (grown_at s sp d n) ≡ suc (all_pages sp)
pages-unfit s sp d n l e = omega (arith, all_grown s sp d n l, grown-unfit s.p (sp d) n e)
