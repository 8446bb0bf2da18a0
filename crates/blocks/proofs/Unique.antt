-- One memory holds one state of the blocks, given the kinds' next numbers. Assumes nothing.
use Prim.Native.Nat.{ℕ, ◌*◌, ◌^◌, ◌<◌, ◌≤◌}
use mathlib.Core.Path.{◌≡◌, sym, ◌∙◌}
use mathlib.Core.Logic.{inl, inr}
use native.Mathlib.Omega.{arith}
use borrow.Author.Tests.{ltb-true, ltb-false}
use lib.Dec.{ltb}
use Rattle.slices.specs.Bytes.{Bytes}
use Rattle.slices.proofs.Tests.{Split, split}
use Rattle.layout.specs.declared.Sizes.{Sizes}
use Rattle.layout.specs.Sizes.{kinds}
use Rattle.blocks.specs.Blocks.{Blocks}
use Rattle.blocks.specs.Tables.{BlocksAt}
use Rattle.blocks.proofs.Tables.{owner-in, owner-past}

-- No other kind has a number.
pub no_kind : (s : Sizes) (b : Blocks) (lists : Bytes) → BlocksAt s b lists → (k : ℕ) → kinds ≤ k → b.next k ≡ 0
no_kind s b lists T k h = go (split (ltb 0 (b.next k)))
  where
    go : Split (ltb 0 (b.next k)) → b.next k ≡ 0
    go (inl p) =
        let q : 0 < b.next k = ltb-true 0 (b.next k) p in
        absurd (omega (arith, T.kind (b.block_of k 0) k 0 (T.sound.there k 0 (omega arith))))
    go (inr p) = omega (arith, ltb-false 0 (b.next k) p)

module _ (s : Sizes) (lists : Bytes) (x y : Blocks) (T : BlocksAt s x lists) (U : BlocksAt s y lists)
    (same : (k : ℕ) → k < kinds → x.next k ≡ y.next k) where
  nexts : (k : ℕ) → x.next k ≡ y.next k
  nexts k = go (split (ltb k kinds))
    where
      go : Split (ltb k kinds) → x.next k ≡ y.next k
      go (inl p) = same k (ltb-true k kinds p)
      go (inr p) = no_kind s x lists T k (ltb-false k kinds p) ∙ sym (no_kind s y lists U k (ltb-false k kinds p))

  owners : (g : ℕ) → x.owner g ≡ y.owner g
  owners g = go (split (ltb g s.b))
    where
      go : Split (ltb g s.b) → x.owner g ≡ y.owner g
      go (inl p) = sym (owner-in s x lists T g (ltb-true g s.b p)) ∙ owner-in s y lists U g (ltb-true g s.b p)
      go (inr p) = owner-past s x lists T g (ltb-false g s.b p) ∙ sym (owner-past s y lists U g (ltb-false g s.b p))

  -- The global block of a local block follows from the owners.
  blocks-of : (k l : ℕ) → x.block_of k l ≡ y.block_of k l
  blocks-of k l = go (split (ltb (l * 2 ^ s.w) (x.next k)))
    where
      go : Split (ltb (l * 2 ^ s.w) (x.next k)) → x.block_of k l ≡ y.block_of k l
      go (inl p) =
          let h : l * 2 ^ s.w < x.next k = ltb-true _ _ p in
          sym (U.sound.back (x.block_of k l) k l (sym (owners (x.block_of k l)) ∙ T.sound.there k l h)).1
      go (inr p) =
          let h : x.next k ≤ l * 2 ^ s.w = ltb-false _ _ p in
          T.unused k l h ∙ sym (U.unused k l (rw (nexts k) at h))

  pub blocks-unique : x ≡ y
  blocks-unique = λ i. record { owner = λ g. owners g i; block_of = λ k l. blocks-of k l i; next = λ k. nexts k i }
