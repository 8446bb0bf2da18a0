-- Names and global numbers at a good state: each leads back to the other, and a fresh name moves none. Assumes nothing.
use Prim.Native.Nat.{ℕ, ◌+◌, ◌*◌, ◌/◌, ◌%◌, ◌^◌, ◌<◌}
use mathlib.Core.Path.{◌≡◌, refl, sym, ap, ◌∙◌}
use mathlib.Core.Logic.{inl, inr}
use mathlib.Core.Bool.{cond}
use mathlib.Core.Option.{Option, none, some}
use native.Mathlib.Omega.{arith}
use native.Mathlib.Decide.{ℕ_discrete}
use borrow.Author.Tests.{eq-eqb, ne_eqb}
use Rattle.slices.proofs.Tests.{Split, split}
use Rattle.layout.specs.declared.Sizes.{Sizes}
use Rattle.blocks.specs.Blocks.{Block, free, held, took, global, newest}
use Rattle.blocks.specs.Sound.{May}
use Rattle.meta_dv_dict.proofs.Numbers.{to-local, to-global, numbers_stay, newest-given}
use Rattle.model.specs.Names.{Name, same_name}
use Rattle.model.specs.State.{State, local_of, global_of, number_of, name_at, name_of}
use Rattle.model.specs.Steps.{extended}
use Rattle.model.specs.Good.{Good}
use Rattle.model.proofs.Names.{local-lt, name_back, local_back}

module _ (s : Sizes) (st : State) (G : Good s st) where
  -- A name's local number is one that its kind has given.
  below_next : (k : ℕ) (a : Name) (n : ℕ) → local_of a (st.part k).names ≡ some n → n < st.blocks.next k
  below_next k a n e = omega (arith, local-lt a (st.part k).names n e, (G.part k).numbered)

  -- Reading a name's number gives the name,
  pub read_back : (a : Name) (n : ℕ) → number_of s st a ≡ some n → name_of s st n ≡ some a
  unfolding number_of name_of
  read_back a n e = go (local_of a (st.part a.kind).names) refl e
    where
      go : (o : Option ℕ) → local_of a (st.part a.kind).names ≡ o → global_of s.w st.blocks a.kind o ≡ some n → name_of s st n ≡ some a
      go none p q = cc
      go (some i) p q =
          let m : n ≡ global s.w st.blocks a.kind i = cc in
          let t = to-local s.w st.blocks G.sound a.kind i (below_next a.kind a i p) in
          rw (m, t.0, t.1) (name_back a (st.part a.kind).names i p)

  -- and the name at a number has it.
  pub number-back : (a : Name) (n : ℕ) → name_of s st n ≡ some a → number_of s st a ≡ some n
  unfolding number_of name_of
  number-back a n e = go (st.blocks.owner (n / 2 ^ s.w)) refl e
    where
      go : (o : Block) → st.blocks.owner (n / 2 ^ s.w) ≡ o → name_at s.w st n o ≡ some a → number_of s st a ≡ some n
      go free p q = cc
      go (held k l) p q =
          let i : ℕ = l * 2 ^ s.w + n % 2 ^ s.w in
          let r : (local_of a (st.part k).names ≡ some i) × (a.kind ≡ k) = local_back s k _ a (st.part k).names i (G.part k).names q in
          let m : global s.w st.blocks k i ≡ n = to-global s.w st.blocks G.sound n k l p in
          ap (λ (j : ℕ). global_of s.w st.blocks j (local_of a (st.part j).names)) r.1
          ∙ ap (λ (o : Option ℕ). global_of s.w st.blocks k o) r.0 ∙ ap some m

  -- ---- a fresh name

  module _ (a : Name) (g : ℕ) (M : May s.w st.blocks a.kind g) where
    stays : (j : ℕ) (o : Option ℕ) → ((i : ℕ) → o ≡ some i → i < st.blocks.next j)
        → global_of s.w (took s.w st.blocks a.kind g) j o ≡ global_of s.w st.blocks j o
    stays j none h = refl
    stays j (some i) h = ap some (numbers_stay s.w st.blocks a.kind g M j i (h i refl))

    -- The new name has the new number, every other name what it had.
    pub number-new : (b : Name) → number_of s (extended s st a g) b ≡ cond (same_name b a) (some (newest s.w st.blocks a.kind g)) (number_of s st b)
    unfolding number_of extended
    number-new b = go (ℕ_discrete a.kind b.kind) (split (same_name b a))
      where
        Goal : Type 0
        Goal = number_of s (extended s st a g) b ≡ cond (same_name b a) (some (newest s.w st.blocks a.kind g)) (number_of s st b)

        go : Dec (a.kind ≡ b.kind) → Split (same_name b a) → Goal
        go (no q) d = rw (ne_eqb a.kind b.kind q, ne_eqb b.kind a.kind (λ e. q (sym e)))
            (stays b.kind (local_of b (st.part b.kind).names) (λ i e. below_next b.kind b i e))
        go (yes q) (inr p) = rw (eq-eqb a.kind b.kind q, p)
            (ap (λ (j : ℕ). global_of s.w (took s.w st.blocks a.kind g) b.kind (local_of b (st.part j).names)) q
            ∙ stays b.kind (local_of b (st.part b.kind).names) (λ i e. below_next b.kind b i e))
        go (yes q) (inl p) = rw (eq-eqb a.kind b.kind q, p, ← q, ← (G.part a.kind).numbered) (ap some (newest-given s.w st.blocks a.kind g M))
