-- What a memory can hold of a good state determines the state. So one memory stands for one state. Assumes nothing.
use Prim.Native.Nat.{ℕ, zero, ◌*◌, ◌^◌, ◌<◌, ◌≤◌}
use mathlib.Core.Path.{◌≡◌, refl, sym, ap, ◌∙◌}
use mathlib.Core.Logic.{inl, inr}
use mathlib.Core.List.{List, [], ◌∷◌}
use native.Mathlib.Omega.{arith}
use borrow.Author.Tests.{ltb-true, ltb-false}
use lib.Dec.{ltb}
use lib.ListN.{length}
use Rattle.slices.proofs.Tests.{Split, split}
use Rattle.layout.specs.declared.Sizes.{Sizes}
use Rattle.layout.specs.Sizes.{kinds, dictionaries}
use Rattle.blocks.specs.Blocks.{Block, free, held}
use Rattle.model.specs.State.{Stamped, Part, State}
use Rattle.model.specs.Good.{NamesOf, Good}
use Rattle.model.proofs.Table.{no-pair}
use Rattle.model.proofs.Legal.{legal-kind}

-- Two states are alike in what a memory holds: the parts of the kinds, the blocks' owners below b, the dictionaries' spaces.
pub record Alike (s : Sizes) (x y : State) : Type 0 where
  pub part : (k : ℕ) → k < kinds → x.part k ≡ y.part k
  pub owner : (g : ℕ) → g < s.b → x.blocks.owner g ≡ y.blocks.owner g
  pub space : (d : ℕ) → d < dictionaries → x.space d ≡ y.space d

no_names : (s : Sizes) (k t : ℕ) (xs : List Stamped) → kinds ≤ k → NamesOf s k t xs → xs ≡ []
no_names s k t [] h o = refl
no_names s k t (x ∷ xs) h o = absurd (omega (arith, legal-kind s x.name o.0, o.1))

module _ (s : Sizes) where
  no_part : (x : State) → Good s x → (k : ℕ) → kinds ≤ k → x.part k ≡ record { names = []; heads = [] }
  no_part x G k h =
      let p : (x.part k).names ≡ [] = no_names s k _ (x.part k).names h (G.part k).names in
      let q : (x.part k).heads ≡ [] = (G.part k).headless (no-pair k h) in
      λ i. record { names = p i; heads = q i }

  no-owner : (x : State) → Good s x → (g : ℕ) → s.b ≤ g → x.blocks.owner g ≡ free
  no-owner x G g h = go (x.blocks.owner g) refl
    where
      go : (o : Block) → x.blocks.owner g ≡ o → o ≡ free
      go free e = refl
      go (held k l) e = absurd (omega (arith, G.below g k l e))

  no-space : (x : State) → Good s x → (d : ℕ) → dictionaries ≤ d → x.space d ≡ record { taken = zero; used = zero }
  no-space x G d h =
      let p : (x.space d).taken ≡ zero = G.beyond d h in
      let q : (x.space d).used ≡ zero = G.pageless d p in
      λ i. record { taken = p i; used = q i }

  module _ (x y : State) (F : Good s x) (G : Good s y) (A : Alike s x y) where
    parts : (k : ℕ) → x.part k ≡ y.part k
    parts k = go (split (ltb k kinds))
      where
        go : Split (ltb k kinds) → x.part k ≡ y.part k
        go (inl p) = A.part k (ltb-true k kinds p)
        go (inr p) = no_part x F k (ltb-false k kinds p) ∙ sym (no_part y G k (ltb-false k kinds p))

    owners : (g : ℕ) → x.blocks.owner g ≡ y.blocks.owner g
    owners g = go (split (ltb g s.b))
      where
        go : Split (ltb g s.b) → x.blocks.owner g ≡ y.blocks.owner g
        go (inl p) = A.owner g (ltb-true g s.b p)
        go (inr p) = no-owner x F g (ltb-false g s.b p) ∙ sym (no-owner y G g (ltb-false g s.b p))

    spaces : (d : ℕ) → x.space d ≡ y.space d
    spaces d = go (split (ltb d dictionaries))
      where
        go : Split (ltb d dictionaries) → x.space d ≡ y.space d
        go (inl p) = A.space d (ltb-true d dictionaries p)
        go (inr p) = no-space x F d (ltb-false d dictionaries p) ∙ sym (no-space y G d (ltb-false d dictionaries p))

    nexts : (k : ℕ) → x.blocks.next k ≡ y.blocks.next k
    nexts k = (F.part k).numbered ∙ ap (λ (p : Part). length p.names) (parts k) ∙ sym (G.part k).numbered

    -- The global block of a local block follows from the owners.
    blocks-of : (k l : ℕ) → x.blocks.block_of k l ≡ y.blocks.block_of k l
    blocks-of k l = go (split (ltb (l * 2 ^ s.w) (x.blocks.next k)))
      where
        go : Split (ltb (l * 2 ^ s.w) (x.blocks.next k)) → x.blocks.block_of k l ≡ y.blocks.block_of k l
        go (inl p) =
            let o : x.blocks.owner (x.blocks.block_of k l) ≡ held k l = F.sound.there k l (ltb-true _ _ p) in
            sym (G.sound.back (x.blocks.block_of k l) k l (sym (owners (x.blocks.block_of k l)) ∙ o)).1
        go (inr p) =
            let h : x.blocks.next k ≤ l * 2 ^ s.w = ltb-false _ _ p in
            F.unused k l h ∙ sym (G.unused k l (rw (nexts k) at h))

    pub unique : x ≡ y
    unique = λ i. record {
      part = λ k. parts k i;
      blocks = record { owner = λ g. owners g i; block_of = λ k l. blocks-of k l i; next = λ k. nexts k i };
      space = λ d. spaces d i;
    }
