-- The number issued to a fresh name is the one that the block rule gives its local number, after the whole list too. Assumes nothing.
use Prim.Native.Nat.{ℕ, zero, suc, ◌+◌, ◌*◌, ◌/◌, ◌%◌, ◌^◌, ◌<◌}
use mathlib.Core.Path.{◌≡◌, refl, sym, ap, ◌∙◌}
use mathlib.Core.Logic.{◌≢◌, inl, inr}
use mathlib.Core.List.{List, [], ◌∷◌}
use mathlib.Core.Option.{Option, none, some}
use native.Mathlib.Omega.{arith}
use native.Mathlib.Decide.{ℕ_discrete}
use borrow.Author.Tests.{eqb-true, eq-eqb, ne_eqb}
use lib.Dec.{eqb}
use lib.Pow as Pow
use Rattle.slices.proofs.Tests.{Split, split}
use Rattle.layout.specs.declared.Sizes.{Sizes}
use Rattle.blocks.specs.Rule.{Grant, grants_of, holding, block_for, granted_in, granted, number_in, block_rule}
use Rattle.model.specs.Names.{Name}
use Rattle.model.specs.Calls.{Effect, fresh, known, no-effect, fresh_kinds}
use Rattle.two_lists.specs.Orders.{fresh_of, Numbered, global_in}
use Rattle.two_lists.proofs.Stepwise.{Stepwise}
use Rattle.two_lists.proofs.Locals.{fresh-here, below-count}

-- ---- one grant more

-- What the rule granted where it gave the number n: the block, which with the local number makes n.
pub record Granted (s : Sizes) (ks : List ℕ) (k n : ℕ) : Type 0 where
  pub block : ℕ
  pub found : block_for s (granted s ks) k (grants_of k (granted s ks)) ≡ some block
  pub number : n ≡ block * 2 ^ s.w + grants_of k (granted s ks) % 2 ^ s.w

granted-for : (s : Sizes) (ks : List ℕ) (k n : ℕ) → block_rule s ks k ≡ some n → Granted s ks k n
unfolding block_rule
granted-for s ks k n e = go (block_for s (granted s ks) k (grants_of k (granted s ks))) refl e
  where
    go : (o : Option ℕ) → block_for s (granted s ks) k (grants_of k (granted s ks)) ≡ o → number_in s (grants_of k (granted s ks)) o ≡ some n → Granted s ks k n
    go none p q = cc
    go (some g) p q = let u : n ≡ g * 2 ^ s.w + grants_of k (granted s ks) % 2 ^ s.w = cc in record { block = g; found = p; number = u }

-- The grants with one more in the block g.
one_more : (s : Sizes) (ks : List ℕ) (k g : ℕ) → block_for s (granted s ks) k (grants_of k (granted s ks)) ≡ some g
    → granted s (k ∷ ks) ≡ record { kind = k; local = grants_of k (granted s ks) / 2 ^ s.w; block = g } ∷ granted s ks
one_more s ks k g e = ap (granted_in s (granted s ks) k) e

-- A local block that goes on keeps its block.
goes_on : (s : Sizes) (xs : List Grant) (k c l g : ℕ) → l < c → c / 2 ^ s.w ≡ l / 2 ^ s.w → block_for s xs k c ≡ some g → g ≡ holding xs k (l / 2 ^ s.w)
goes_on s xs k c l g h e f =
    let d : c % 2 ^ s.w ≢ zero = λ z. omega (arith, Pow.split c s.w, Pow.split l s.w, ap (λ (t : ℕ). t * 2 ^ s.w) e) in
    let q : block_for s xs k c ≡ some (holding xs k (c / 2 ^ s.w)) = rw (ne_eqb (c % 2 ^ s.w) zero d) in
    let u : g ≡ holding xs k (c / 2 ^ s.w) = cc in
    u ∙ ap (holding xs k) e

-- So one grant more moves no block that is held.
held_stays : (s : Sizes) (xs : List Grant) (k j l g : ℕ) → block_for s xs k (grants_of k xs) ≡ some g → l < grants_of j xs
    → holding (record { kind = k; local = grants_of k xs / 2 ^ s.w; block = g } ∷ xs) j (l / 2 ^ s.w) ≡ holding xs j (l / 2 ^ s.w)
held_stays s xs k j l g f h = go (split (eqb k j)) (split (eqb (grants_of k xs / 2 ^ s.w) (l / 2 ^ s.w)))
  where
    go : Split (eqb k j) → Split (eqb (grants_of k xs / 2 ^ s.w) (l / 2 ^ s.w))
        → holding (record { kind = k; local = grants_of k xs / 2 ^ s.w; block = g } ∷ xs) j (l / 2 ^ s.w) ≡ holding xs j (l / 2 ^ s.w)
    go (inl p) (inl q) =
        let u : k ≡ j = eqb-true k j p in
        let h' : l < grants_of k xs = rw u h in
        rw (p, q) (goes_on s xs k (grants_of k xs) l g h' (eqb-true (grants_of k xs / 2 ^ s.w) (l / 2 ^ s.w) q) f ∙ ap (λ (i : ℕ). holding xs i (l / 2 ^ s.w)) u)
    go (inl p) (inr q) = rw (p, q)
    go (inr p) q = rw p

-- ---- the whole list

module _ (s : Sizes) where
  -- There is a grant for each fresh name.
  granted-count : (k : ℕ) (es : List Effect) → Stepwise s es → grants_of k (granted s (fresh_kinds es)) ≡ fresh_of k es
  granted-count k [] S = refl
  granted-count k (fresh b m ∷ es) S =
      let G = granted-for s (fresh_kinds es) b.kind m S.1 in
      ap (grants_of k) (one_more s (fresh_kinds es) b.kind G.block G.found) ∙ go G.block (ℕ_discrete b.kind k) (granted-count k es S.2)
    where
      go : (g : ℕ) → Dec (b.kind ≡ k) → grants_of k (granted s (fresh_kinds es)) ≡ fresh_of k es
          → grants_of k (record { kind = b.kind; local = grants_of b.kind (granted s (fresh_kinds es)) / 2 ^ s.w; block = g } ∷ granted s (fresh_kinds es))
          ≡ fresh_of k (fresh b m ∷ es)
      go g (yes p) ih = rw (eq-eqb b.kind k p, eq-eqb k b.kind (sym p)) (ap suc ih)
      go g (no p) ih = rw (ne_eqb b.kind k p, ne_eqb k b.kind (λ u. p (sym u))) ih
  granted-count k (known b m ∷ es) S = granted-count k es S.1
  granted-count k (no-effect ∷ es) S = granted-count k es S

  pub issued-by-rule : (a : Name) (l n : ℕ) (es : List Effect) → Stepwise s es → Numbered a l n es → n ≡ global_in s (fresh_kinds es) a.kind l
  issued-by-rule a l n [] S x = absurd x
  issued-by-rule a l n (fresh b m ∷ es) S (inl x) =
      let G = granted-for s (fresh_kinds es) b.kind m S.1 in
      let c : l ≡ grants_of b.kind (granted s (fresh_kinds es)) = omega (arith, x.2, fresh-here b m es, granted-count b.kind es S.2) in
      let e : m ≡ G.block * 2 ^ s.w + l % 2 ^ s.w = rw c G.number in
      let q : (grants_of b.kind (granted s (fresh_kinds es)) / 2 ^ s.w) ≡ l / 2 ^ s.w = ap (λ (i : ℕ). i / 2 ^ s.w) (sym c) in
      x.1 ∙ e
      ∙ sym
      (rw (x.0, one_more s (fresh_kinds es) b.kind G.block G.found, eq-eqb b.kind b.kind refl, eq-eqb (grants_of b.kind (granted s (fresh_kinds es)) / 2 ^ s.w) (l / 2 ^ s.w) q))
  issued-by-rule a l n (fresh b m ∷ es) S (inr x) =
      let G = granted-for s (fresh_kinds es) b.kind m S.1 in
      let h : l < grants_of a.kind (granted s (fresh_kinds es)) = rw (granted-count a.kind es S.2) (below-count a l n es x) in
      issued-by-rule a l n es S.2 x
      ∙ sym
      (rw
      (one_more s (fresh_kinds es) b.kind G.block G.found, held_stays s (granted s (fresh_kinds es)) b.kind a.kind l G.block G.found h))
  issued-by-rule a l n (known b m ∷ es) S x = issued-by-rule a l n es S.1 x
  issued-by-rule a l n (no-effect ∷ es) S x = issued-by-rule a l n es S x
