-- Q-13, two engineers, two orders: from demand 3 of both lists. Assumes nothing.
use Prim.Native.Nat.{ℕ, ◌<◌, ◌≤◌}
use mathlib.Core.Path.{◌≡◌, sym, subst, ◌∙◌}
use mathlib.Core.Logic.{inl, inr}
use mathlib.Core.List.{List}
use native.Mathlib.Omega.{arith}
use borrow.Author.Tests.{ltb-true, ltb-false}
use lib.Dec.{ltb}
use Rattle.slices.proofs.Tests.{Split, split}
use Rattle.layout.specs.declared.Sizes.{Sizes}
use Rattle.blocks.proofs.Pigeons.{pigeons}
use Rattle.model.specs.Names.{Name}
use Rattle.model.specs.Calls.{Event, Effect, effects, nothing, Demand3}
use Rattle.two_lists.specs.Orders.{Named, SameNames, fresh_of, Numbered, LocalNumbers, IssuedFirst, Pairing, Carries, Paired, TwoOrders}
use Rattle.two_lists.proofs.Stepwise.{Stepwise, stepwise, named-issued, issued-named, one_number, one_name}
use Rattle.two_lists.proofs.Locals.{each_local, below-count, one-for-local, numbered-issued, issued-numbered, one_local}
use Rattle.two_lists.proofs.Blocks.{issued-by-rule}

-- ---- one list

local-numbers : (s : Sizes) (es : List Effect) → Stepwise s es → (k : ℕ) → LocalNumbers s k es
local-numbers s es S k = record {
  each = λ l h. each_local k l es h;
  no_other = λ a l n e x. rw (← e) (below-count a l n es x);
  once = λ a b l m n e f x y. one-for-local a b l m n es (e ∙ sym f) x y;
  one = λ a l i m n e x y. one_local s a l i m n es S x y;
  issued = λ a l n e x. rw (← e) (issued-by-rule s a l n es S x);
}

-- ---- one list and another that has all its names

module _ (s t : Sizes) (xs ys : List Effect) (S : Stepwise s xs) (T : Stepwise t ys) (has : (a : Name) → Named a xs → Named a ys) where
  -- A fresh name of the kind k has the local number l in the first and i in the second.
  abbrev Shared : ℕ → ℕ → ℕ → Type 0
  Shared k l i = (a : Name) × (m n : ℕ) × (a.kind ≡ k) × Numbered a l m xs × Numbered a i n ys

  -- A local number of the first, and the second's local number of the same name.
  partner : (k l : ℕ) → (i : ℕ) × (l < fresh_of k xs → Shared k l i)
  partner k l = go (split (ltb l (fresh_of k xs)))
    where
      go : Split (ltb l (fresh_of k xs)) → (i : ℕ) × (l < fresh_of k xs → Shared k l i)
      go (inl p) =
          let x = each_local k l xs (ltb-true l (fresh_of k xs) p) in
          let j = named-issued t x.0 ys T (has x.0 (issued-named s x.0 x.1 xs (numbered-issued s x.0 l x.1 xs x.3))) in
          let y = issued-numbered t x.0 j.0 ys j.1 in
          (y.0, λ h. (x.0, x.1, j.0, x.2, x.3, y.1))
      go (inr p) = (0, λ h. absurd (omega (arith, h, ltb-false l (fresh_of k xs) p)))

  pub count_most : (k : ℕ) → fresh_of k xs ≤ fresh_of k ys
  count_most k = pigeons (fresh_of k ys) (fresh_of k xs) (λ l. (partner k l).0) low one
    where
      low : (l : ℕ) → l < fresh_of k xs → (partner k l).0 < fresh_of k ys
      low l h = let x = (partner k l).1 h in subst (λ (j : ℕ). (partner k l).0 < fresh_of j ys) x.3 (below-count x.0 (partner k l).0 x.2 ys x.5)

      one : (l j : ℕ) → l < fresh_of k xs → j < fresh_of k xs → (partner k l).0 ≡ (partner k j).0 → l ≡ j
      one l j h g e =
          let x = (partner k l).1 h in
          let y = (partner k j).1 g in
          let z : Numbered x.0 (partner k j).0 x.2 ys = rw e at x.5 in
          let u : x.0 ≡ y.0 = (one-for-local x.0 y.0 (partner k j).0 x.2 y.2 ys (x.3 ∙ sym y.3) z y.5).0 in
          let v : Numbered y.0 l x.1 xs = rw u at x.4 in
          one_local s y.0 l j x.1 y.1 xs S v y.4

  -- Each number of the first is in one pair.
  pub paired-once : (m : ℕ) → IssuedFirst s t xs ys m → (n : ℕ) × Paired s t xs ys m n × ((j : ℕ) → Paired s t xs ys m j → j ≡ n)
  paired-once m i =
      let j = named-issued t i.0 ys T (has i.0 (issued-named s i.0 m xs i.1)) in (
        j.0,
        (i.0, i.1, j.1),
        λ k p.
            let u : p.0 ≡ i.0 = one_name s p.0 i.0 m xs S p.1 i.1 in
            one_number t i.0 k j.0 ys T (rw u at p.2) j.1,
      )

  pub carries_each : Carries s t xs ys (Paired s t xs ys)
  carries_each = record {
    each = λ m i. let p = paired-once m i in (p.0, p.1);
    to_same = λ a m n i p.
        let u : p.0 ≡ a = one_name s p.0 a m xs S p.1 i in
        rw u at p.2;
  }

  -- Each of its pairs is one name's two numbers.
  pub in_pair : (R : ℕ → ℕ → Type 0) → Pairing s t xs ys R → Carries s t xs ys R → (m n : ℕ) → R m n → Paired s t xs ys m n
  in_pair R P C m n r = let i = (P m n r).0 in (i.0, i.1, C.to_same i.0 m n i.1 r)

  -- A pairing that carries has the pair of each name's two numbers.
  pub has-pair : (R : ℕ → ℕ → Type 0) → Carries s t xs ys R → (m n : ℕ) → Paired s t xs ys m n → R m n
  has-pair R C m n p =
      let r = C.each m (p.0, p.1) in
      let e : r.0 ≡ n = one_number t p.0 r.0 n ys T (C.to_same p.0 m r.0 p.1 r.1) p.2 in
      rw (← e) r.1

-- ---- both

module _ (s t : Sizes) (xs ys : List Effect) (S : Stepwise s xs) (T : Stepwise t ys) (same : SameNames xs ys) where
  there : (a : Name) → Named a xs → Named a ys
  there a = (same a).0

  back : (a : Name) → Named a ys → Named a xs
  back a = (same a).1

  pub stepwise-two-orders : TwoOrders s t xs ys
  stepwise-two-orders = record {
    counts = λ k. omega (arith, count_most s t xs ys S T there k, count_most t s ys xs T S back k);
    first-locals = local-numbers s xs S;
    second-locals = local-numbers t ys T;
    pairing = λ m n p. ((p.0, p.1), (p.0, p.2));
    each-once = record {
      first = paired-once s t xs ys S T there;
      second = λ n i.
          let q = paired-once t s ys xs T S back n i in
          (q.0, (q.1.0, q.1.2, q.1.1), λ j p. q.2 j (p.0, p.2, p.1));
    };
    carries = carries_each s t xs ys S T there;
    only = λ R P C m n. (in_pair s t xs ys S T there R P C m n, has-pair s t xs ys S T there R C m n);
  }

-- Two lists of calls from two freshly opened dictionaries, with the same set of names that were given numbers.
pub two-orders : (s t : Sizes) (es fs : List Event) → Demand3 (nothing s) es → Demand3 (nothing t) fs → SameNames (effects es) (effects fs)
    → TwoOrders s t (effects es) (effects fs)
two-orders s t es fs D E same = stepwise-two-orders s t (effects es) (effects fs) (stepwise s es D) (stepwise t fs E) same
