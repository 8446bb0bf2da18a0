-- The block rule, on the kinds of the fresh names, gives the numbers that the steps from the opened state give. Assumes nothing.
use Prim.Native.Nat.{ℕ, zero, suc, ◌+◌, ◌-◌, ◌*◌, ◌/◌, ◌%◌, ◌^◌}
use mathlib.Core.Path.{◌≡◌, refl, sym, ap, subst, ◌∙◌}
use mathlib.Core.Logic.{inl, inr}
use mathlib.Core.Bool.{cond}
use mathlib.Core.List.{List, [], ◌∷◌}
use mathlib.Core.Option.{Option, none, some}
use lib.Dec.{eqb}
use borrow.Author.Tests.{eqb-true}
use Rattle.slices.proofs.Tests.{Split, split}
use Rattle.layout.specs.declared.Sizes.{Sizes}
use Rattle.blocks.specs.Blocks.{Blocks, no_blocks, if_free, search, start, pick, took, took_picked, blocks_after, number_picked}
use Rattle.blocks.specs.Rule.{Grant, grants_of, taken, holding, first_free, search_from, block_for, granted_in, granted, number_in, block_rule}

-- The grants and the state say the same.
record Same (xs : List Grant) (b : Blocks) : Type 0 where
  owner : (g : ℕ) (o : Option ℕ) → cond (taken xs g) o (some g) ≡ if_free (b.owner g) g o
  block_of : (k l : ℕ) → holding xs k l ≡ b.block_of k l
  next : (k : ℕ) → grants_of k xs ≡ b.next k

module _ (xs : List Grant) (b : Blocks) (S : Same xs b) where
  search-same : (g n : ℕ) → first_free xs g n ≡ search b.owner g n
  search-same g zero = refl
  search-same g (suc n) = S.owner g (first_free xs (suc g) n) ∙ ap (if_free (b.owner g) g) (search-same (suc g) n)

  start-same : (k l : ℕ) → search_from xs k l ≡ start b k l
  start-same k zero = refl
  start-same k (suc l) = ap (λ (t : ℕ). t + l) (S.block_of k l)

  block_same : (s : Sizes) (k : ℕ) → block_for s xs k (grants_of k xs) ≡ pick s b k
  unfolding pick
  block_same s k =
      let l : ℕ = b.next k / 2 ^ s.w in
      rw (S.next k, start-same k l, search-same (start b k l) (s.b - start b k l), S.block_of k l)

  took-same : (s : Sizes) (k g : ℕ) → Same (granted_in s xs k (some g)) (took s.w b k g)
  took-same s k g = record {
    owner = λ i o. owners i o (split (eqb g i));
    block_of = λ j l. places j l (split (eqb k j)) (split (eqb (b.next k / 2 ^ s.w) l));
    next = λ j. nexts j (split (eqb k j));
  }
    where
      owners : (i : ℕ) (o : Option ℕ) → Split (eqb g i)
          → cond (taken (granted_in s xs k (some g)) i) o (some i) ≡ if_free ((took s.w b k g).owner i) i o
      owners i o (inl p) = rw p
      owners i o (inr p) = rw p (S.owner i o)

      places : (j l : ℕ) → Split (eqb k j) → Split (eqb (b.next k / 2 ^ s.w) l)
          → holding (granted_in s xs k (some g)) j l ≡ (took s.w b k g).block_of j l
      places j l (inl p) (inl q) = rw (S.next k, p, q)
      places j l (inl p) (inr q) = rw (S.next k, p, q) (S.block_of j l ∙ ap (λ (t : ℕ). b.block_of t l) (sym (eqb-true k j p)))
      places j l (inr p) q = rw p (S.block_of j l)

      nexts : (j : ℕ) → Split (eqb k j) → grants_of j (granted_in s xs k (some g)) ≡ (took s.w b k g).next j
      nexts j (inl p) = rw p (ap suc (S.next j ∙ ap b.next (sym (eqb-true k j p))))
      nexts j (inr p) = rw p (S.next j)

  step_same : (s : Sizes) (k : ℕ) (o : Option ℕ) → Same (granted_in s xs k o) (took_picked s.w b k o)
  step_same s k none = S
  step_same s k (some g) = took-same s k g

after_same : (s : Sizes) (ks : List ℕ) → Same (granted s ks) (blocks_after s no_blocks ks)
after_same s [] = record { owner = λ g o. refl; block_of = λ k l. refl; next = λ k. refl }
after_same s (k ∷ ks) =
    let S = after_same s ks in
    let xs : List Grant = granted s ks in
    let b : Blocks = blocks_after s no_blocks ks in
    subst (λ (o : Option ℕ). Same (granted_in s xs k o) (took_picked s.w b k (pick s b k))) (sym (block_same xs b S s k)) (step_same xs b S s k (pick s b k))

number_same : (s : Sizes) (b : Blocks) (k n : ℕ) (o : Option ℕ) → n ≡ b.next k → number_in s n o ≡ number_picked s.w b k o
number_same s b k n none e = refl
number_same s b k n (some g) e = ap (λ (t : ℕ). some (g * 2 ^ s.w + t % 2 ^ s.w)) e

pub rule-steps : (s : Sizes) (ks : List ℕ) (k : ℕ)
    → block_rule s ks k ≡ number_picked s.w (blocks_after s no_blocks ks) k (pick s (blocks_after s no_blocks ks) k)
unfolding block_rule
rule-steps s ks k =
    let S = after_same s ks in
    let b = blocks_after s no_blocks ks in
    ap (number_in s (grants_of k (granted s ks))) (block_same (granted s ks) b S s k)
    ∙ number_same s b k (grants_of k (granted s ks)) (pick s b k) (S.next k)
