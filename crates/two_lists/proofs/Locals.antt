-- The local numbers of a kind's fresh names run from 0 to the count less one. Assumes nothing.
use Prim.Native.Nat.{ℕ, suc, ◌<◌, ◌≤◌}
use mathlib.Core.Path.{◌≡◌, refl, sym, ap, ◌∙◌, subst}
use mathlib.Core.Logic.{inl, inr}
use mathlib.Core.List.{List, [], ◌∷◌}
use native.Mathlib.Omega.{arith}
use borrow.Author.Tests.{eqb-true, eqb-false, eq-eqb}
use lib.Dec.{eqb}
use Rattle.slices.proofs.Tests.{Split, split}
use Rattle.layout.specs.declared.Sizes.{Sizes}
use Rattle.model.specs.Names.{Name}
use Rattle.model.specs.Calls.{Effect, fresh, known, no-effect, nothing, Issued}
use Rattle.model.proofs.Lists.{issued-given}
use Rattle.two_lists.specs.Orders.{fresh_of, Numbered}
use Rattle.two_lists.proofs.Stepwise.{Stepwise}

-- ---- one fresh name more

pub fresh-here : (b : Name) (m : ℕ) (es : List Effect) → fresh_of b.kind (fresh b m ∷ es) ≡ suc (fresh_of b.kind es)
fresh-here b m es = rw (eq-eqb b.kind b.kind refl)

fresh-more : (k : ℕ) (b : Name) (m : ℕ) (es : List Effect) → fresh_of k es ≤ fresh_of k (fresh b m ∷ es)
fresh-more k b m es = go (split (eqb k b.kind))
  where
    go : Split (eqb k b.kind) → fresh_of k es ≤ fresh_of k (fresh b m ∷ es)
    go (inl p) = rw p (omega arith)
    go (inr p) = rw p (omega arith)

-- ---- the laws

pub each_local : (k l : ℕ) (es : List Effect) → l < fresh_of k es → (a : Name) × (n : ℕ) × (a.kind ≡ k) × Numbered a l n es
each_local k l [] h = absurd (omega arith)
each_local k l (fresh b m ∷ es) h = go (split (eqb k b.kind)) (split (eqb l (fresh_of k es))) (each_local k l es)
  where
    go : Split (eqb k b.kind) → Split (eqb l (fresh_of k es))
        → (l < fresh_of k es → (a : Name) × (n : ℕ) × (a.kind ≡ k) × Numbered a l n es)
        → (a : Name) × (n : ℕ) × (a.kind ≡ k) × Numbered a l n (fresh b m ∷ es)
    go (inl p) (inl q) ih =
        let u : k ≡ b.kind = eqb-true k b.kind p in
        let v : l ≡ fresh_of b.kind es = eqb-true l (fresh_of k es) q ∙ ap (λ (j : ℕ). fresh_of j es) u in
        (b, m, sym u, inl (refl, refl, ap suc v ∙ sym (fresh-here b m es)))
    go (inl p) (inr q) ih =
        let f : l < suc (fresh_of k es) = rw p at h in
        let x = ih (omega (arith, eqb-false l (fresh_of k es) q)) in
        (x.0, x.1, x.2, inr x.3)
    go (inr p) q ih = let x = ih (rw p at h) in (x.0, x.1, x.2, inr x.3)
each_local k l (known b m ∷ es) h = each_local k l es h
each_local k l (no-effect ∷ es) h = each_local k l es h

one-less : (l n : ℕ) → suc l ≡ n → l < n
one-less l n e = omega (arith, e)

pub below-count : (a : Name) (l n : ℕ) (es : List Effect) → Numbered a l n es → l < fresh_of a.kind es
below-count a l n [] x = absurd x
below-count a l n (fresh b m ∷ es) (inl x) = subst (λ (c : Name). l < fresh_of c.kind (fresh b m ∷ es)) (sym x.0) (one-less l _ x.2)
below-count a l n (fresh b m ∷ es) (inr x) = omega (arith, below-count a l n es x, fresh-more a.kind b m es)
below-count a l n (known b m ∷ es) x = below-count a l n es x
below-count a l n (no-effect ∷ es) x = below-count a l n es x

-- The newest fresh name of its kind has a higher local number than the others.
newest-apart : (a b : Name) (l m n : ℕ) (es : List Effect) → a.kind ≡ b.kind → suc l ≡ fresh_of b.kind (fresh b m ∷ es) → Numbered a l n es → ⊥
newest-apart a b l m n es e f x =
    let h : l < fresh_of b.kind es = rw e at (below-count a l n es x) in
    omega (arith, f, h, fresh-here b m es)

pub one-for-local : (a b : Name) (l m n : ℕ) (es : List Effect) → a.kind ≡ b.kind → Numbered a l m es → Numbered b l n es → (a ≡ b) × (m ≡ n)
one-for-local a b l m n [] e x y = absurd x
one-for-local a b l m n (fresh c k ∷ es) e (inl x) (inl y) = (x.0 ∙ sym y.0, x.1 ∙ sym y.1)
one-for-local a b l m n (fresh c k ∷ es) e (inl x) (inr y) = absurd (newest-apart b c l k n es (sym e ∙ ap (λ (z : Name). z.kind) x.0) x.2 y)
one-for-local a b l m n (fresh c k ∷ es) e (inr x) (inl y) = absurd (newest-apart a c l k m es (e ∙ ap (λ (z : Name). z.kind) y.0) y.2 x)
one-for-local a b l m n (fresh c k ∷ es) e (inr x) (inr y) = one-for-local a b l m n es e x y
one-for-local a b l m n (known c k ∷ es) e x y = one-for-local a b l m n es e x y
one-for-local a b l m n (no-effect ∷ es) e x y = one-for-local a b l m n es e x y

-- ---- a fresh name and the number issued to it

module _ (s : Sizes) where
  pub numbered-issued : (a : Name) (l n : ℕ) (es : List Effect) → Numbered a l n es → Issued (nothing s) a n es
  numbered-issued a l n [] x = x
  numbered-issued a l n (fresh b m ∷ es) (inl x) = inl (x.0, x.1)
  numbered-issued a l n (fresh b m ∷ es) (inr x) = inr (numbered-issued a l n es x)
  numbered-issued a l n (known b m ∷ es) x = numbered-issued a l n es x
  numbered-issued a l n (no-effect ∷ es) x = numbered-issued a l n es x

  pub issued-numbered : (a : Name) (n : ℕ) (es : List Effect) → Issued (nothing s) a n es → (l : ℕ) × Numbered a l n es
  issued-numbered a n [] i = absurd i
  issued-numbered a n (fresh b m ∷ es) (inl i) = (fresh_of b.kind es, inl (i.0, i.1, sym (fresh-here b m es)))
  issued-numbered a n (fresh b m ∷ es) (inr i) = let x = issued-numbered a n es i in (x.0, inr x.1)
  issued-numbered a n (known b m ∷ es) i = issued-numbered a n es i
  issued-numbered a n (no-effect ∷ es) i = issued-numbered a n es i

  -- A name is fresh once.
  once-fresh : (a b : Name) (l m n : ℕ) (es : List Effect) → Stepwise s (fresh b m ∷ es) → a ≡ b → Numbered a l n es → ⊥
  once-fresh a b l m n es S e x = (S.0 a n (issued-given (nothing s) a n es (numbered-issued a l n es x))).0 (sym e)

  pub one_local : (a : Name) (l i m n : ℕ) (es : List Effect) → Stepwise s es → Numbered a l m es → Numbered a i n es → l ≡ i
  one_local a l i m n [] S x y = absurd x
  one_local a l i m n (fresh b k ∷ es) S (inl x) (inl y) = omega (arith, x.2, y.2)
  one_local a l i m n (fresh b k ∷ es) S (inl x) (inr y) = absurd (once-fresh a b i k n es S x.0 y)
  one_local a l i m n (fresh b k ∷ es) S (inr x) (inl y) = absurd (once-fresh a b l k m es S y.0 x)
  one_local a l i m n (fresh b k ∷ es) S (inr x) (inr y) = one_local a l i m n es S.2 x y
  one_local a l i m n (known b k ∷ es) S x y = one_local a l i m n es S.1 x y
  one_local a l i m n (no-effect ∷ es) S x y = one_local a l i m n es S x y
