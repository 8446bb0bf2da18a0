-- The ranges as facts, and what they bound. Assumes nothing.
use Prim.Native.Nat.{ℕ, suc, ◌+◌, ◌*◌, ◌≤◌, ◌<◌}
use mathlib.Core.Path.{◌≡◌}
use mathlib.Core.Logic.{inl, inr}
use mathlib.Core.Bool.{true, false}
use native.Mathlib.Omega.{arith}
use native.Mathlib.Nat.{mul-le-mul, mul-le-mul_right, suc-mul}
use borrow.Author.Tests.{leb-true, le-leb}
use lib.Dec.{leb}
use lib.Pow.{pow_mono}
use Rattle.slices.proofs.Tests.{Split, split, and_left, and_right}
use Rattle.layout.specs.declared.Sizes.{Sizes}
use Rattle.std.specs.Prelude.{Some, None}
use Rattle.layout.specs.Sizes.{within, in_range, InRange, made, name_limit, limit, page_size, page_bytes}

pub within-facts : (lo hi x : ℕ) → within lo hi x ≡ true → (lo ≤ x) × (x ≤ hi)
within-facts lo hi x e = (leb-true lo x (and_left (leb lo x) _ e), leb-true x hi (and_right (leb lo x) _ e))

pub facts-within : (lo hi x : ℕ) → lo ≤ x → x ≤ hi → within lo hi x ≡ true
facts-within lo hi x a b = rw (le-leb lo x a) (le-leb x hi b)

pub ranged : (s : Sizes) → in_range s ≡ true → InRange s
unfolding in_range
ranged s e =
    let r = and_right (within 13 20 s.p) _ e in
    let q = and_right (within 1 1024 s.n) _ r in
    let o = and_right (within 1 1048576 s.e) _ q in
    record {
      p = within-facts 13 20 s.p (and_left (within 13 20 s.p) _ e);
      n = within-facts 1 1024 s.n (and_left (within 1 1024 s.n) _ r);
      e = within-facts 1 1048576 s.e (and_left (within 1 1048576 s.e) _ q);
      w = within-facts 4 24 s.w (and_left (within 4 24 s.w) _ o);
      b = within-facts 1 4096 s.b (and_right (within 4 24 s.w) _ o);
    }

pub in-range : (s : Sizes) → InRange s → in_range s ≡ true
unfolding in_range
in-range s h =
    rw (
      facts-within 13 20 s.p h.p.0 h.p.1,
      facts-within 1 1024 s.n h.n.0 h.n.1,
      facts-within 1 1048576 s.e h.e.0 h.e.1,
      facts-within 4 24 s.w h.w.0 h.w.1,
    )
    (facts-within 1 4096 s.b h.b.0 h.b.1)

-- What the constructor of the sizes answered says of them.
pub made-fit : (s t : Sizes) → made s ≡ Some t → (s ≡ t) × (in_range s ≡ true)
unfolding made
made-fit s t e = go (split (in_range s))
  where
    go : Split (in_range s) → (s ≡ t) × (in_range s ≡ true)
    go (inl p) = let q : Some s ≡ Some t = rw p at e in (cc, p)
    go (inr p) = let q : None ≡ Some t = rw p at e in let z : ◌≡◌ {A = ℕ} 0 1 = cc in absurd (omega arith)

pub made-bad : (s : Sizes) → made s ≡ None → in_range s ≡ false
unfolding made
made-bad s e = go (split (in_range s))
  where
    go : Split (in_range s) → in_range s ≡ false
    go (inl p) = let q : Some s ≡ None = rw p at e in let z : ◌≡◌ {A = ℕ} 0 1 = cc in absurd (omega arith)
    go (inr p) = p

-- A page has 2^13 to 2^20 bytes.
pub page-size : (s : Sizes) → InRange s → (8192 ≤ page_size s) × (page_size s ≤ 1048576)
unfolding page_size
page-size s h = (pow_mono h.p.0, pow_mono h.p.1)

-- What the layers above know of a dictionary's limit: it is not above the longest name's, and what a name stores fits a page, packed or behind a head's number.
pub limit-within : (s : Sizes) → limit s ≤ name_limit
unfolding limit
limit-within s = omega arith

pub limit-fits : (s : Sizes) → InRange s → 6 + 2 * limit s ≤ page_size s
unfolding name_limit limit
limit-fits s h = omega (arith, page-size s h)

-- Pages have 2^30 bytes at the most.
pub page-bytes : (s : Sizes) → InRange s → page_bytes s ≤ 1073741824
unfolding page_bytes
page-bytes s h = mul-le-mul h.n.1 (page-size s h).1

-- A part of a page lies in the pages.
pub in-pages : (s : Sizes) (i o : ℕ) → i < s.n → o ≤ page_size s → i * page_size s + o ≤ page_bytes s
unfolding page_bytes
in-pages s i o h l =
    let q : ℕ = page_size s in
    let a : suc i * q ≤ s.n * q = mul-le-mul_right q h in
    let b : suc i * q ≡ i * q + q = suc-mul i q in
    omega arith
