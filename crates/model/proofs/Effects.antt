-- One call at a good state: what its effect says of the numbers, the blocks and the counts after it. Assumes nothing.
use Prim.Native.Nat.{ℕ, suc}
use mathlib.Core.Path.{◌≡◌, refl, sym, ap, ◌∙◌}
use mathlib.Core.Logic.{inl, inr}
use mathlib.Core.Bool.{cond}
use mathlib.Core.List.{List, ◌∷◌}
use mathlib.Core.Option.{none, some}
use borrow.Author.Tests.{eq-eqb, ne_eqb}
use native.Mathlib.Decide.{ℕ_discrete}
use lib.ListN.{length}
use Rattle.slices.proofs.Tests.{Split, split}
use Rattle.layout.specs.declared.Sizes.{Sizes}
use Rattle.blocks.specs.Blocks.{Blocks, newest, blocks_after}
use Rattle.model.specs.Names.{Name, same_name}
use Rattle.model.specs.State.{State, number_of}
use Rattle.model.specs.Steps.{Decision, refuse, found, enter, decide, extended, answer_by, state_by, after_add}
use Rattle.model.specs.Good.{Good}
use Rattle.model.specs.Calls.{Event, add, find, read, count, Effect, fresh, known, no-effect, effect, Before, Given, Issued, fresh_kinds, how_many}
use Rattle.model.specs.Runs.{RightAnswer, after_call}
use Rattle.model.proofs.Names.{name-true, name-same}
use Rattle.model.proofs.Numbers.{number-new}
use Rattle.model.proofs.Decide.{Entering, entering, finding}
use Rattle.model.proofs.Good.{may}

-- What an effect says of the state before it and of the state z after it.
abbrev pub Did : Sizes → State → Effect → State → Type 0
Did s st (fresh a n) z = (g : ℕ) × Entering s st a g × (newest s.w st.blocks a.kind g ≡ n) × (z ≡ extended s st a g)
Did s st (known a n) z = (number_of s st a ≡ some n) × (z ≡ st)
Did s st no-effect z = z ≡ st

pub did : (s : Sizes) (st : State) (e : Event) → RightAnswer s st e → Did s st (effect e) (after_call s st e)
did s st (add a r) right = rw right (go (decide s st a) refl)
  where
    go : (d : Decision) → decide s st a ≡ d → Did s st (effect (add a (answer_by s st a d))) (state_by s st a d)
    go (refuse why) e = refl
    go (found n) e = (finding s st a n e, refl)
    go (enter g) e = (g, entering s st a g e, refl, refl)
did s st (find a r) right = refl
did s st (read n x r y) right = refl
did s st (count k r) right = refl

module _ (s : Sizes) (st : State) (G : Good s st) where
  new_is : (b : Name) (g : ℕ) → Entering s st b g → (a : Name)
      → number_of s (extended s st b g) a ≡ cond (same_name a b) (some (newest s.w st.blocks b.kind g)) (number_of s st a)
  new_is b g e a = number-new s st G b g (may s st b g G e).0 a

  stays : (b : Name) (g : ℕ) → Entering s st b g → (a : Name) (n : ℕ) → number_of s st a ≡ some n → number_of s (extended s st b g) a ≡ some n
  stays b g e a n h = new_is b g e a ∙ go (split (same_name a b))
    where
      go : Split (same_name a b) → cond (same_name a b) (some (newest s.w st.blocks b.kind g)) (number_of s st a) ≡ some n
      go (inl p) =
          let u : a ≡ b = name-true a b p in
          let v : number_of s st a ≡ none = rw u e.new in
          let z : some n ≡ none = sym h ∙ v in cc
      go (inr p) = rw p h

  -- A number stays through every add.
  pub keeps : (b a : Name) (n : ℕ) → number_of s st a ≡ some n → number_of s (after_add s st b) a ≡ some n
  keeps b a n h = go (decide s st b) refl
    where
      go : (d : Decision) → decide s st b ≡ d → number_of s (state_by s st b d) a ≡ some n
      go (refuse why) e = h
      go (found i) e = h
      go (enter g) e = stays b g (entering s st b g e) a n h

  module _ (o : Before) (z : State) (es : List Effect) where
    -- What a name was given is its number,
    pub given_by : (e : Effect) → Did s st e z → (a : Name) (n : ℕ) → (Given o a n es → number_of s st a ≡ some n) → Given o a n (e ∷ es) → number_of s z a ≡ some n
    given_by (fresh b m) d a n ih (inl i) = rw (d.3, i.0, i.1) (new_is b d.0 d.1 b ∙ rw (name-same b, d.2))
    given_by (fresh b m) d a n ih (inr i) = rw d.3 (stays b d.0 d.1 a n (ih i))
    given_by (known b m) d a n ih (inl i) = rw (d.1, i.0, i.1) d.0
    given_by (known b m) d a n ih (inr i) = rw d.1 (ih i)
    given_by no-effect d a n ih i = rw d (ih i)

    -- and a name's number was issued to it.
    pub issued-by : (e : Effect) → Did s st e z → (a : Name) (n : ℕ) → (number_of s st a ≡ some n → Issued o a n es) → number_of s z a ≡ some n → Issued o a n (e ∷ es)
    issued-by (fresh b m) d a n ih h = go (split (same_name a b)) (sym (new_is b d.0 d.1 a) ∙ (rw d.3 at h))
      where
        go : Split (same_name a b) → cond (same_name a b) (some (newest s.w st.blocks b.kind d.0)) (number_of s st a) ≡ some n → Issued o a n (fresh b m ∷ es)
        go (inl p) k =
            let u : some (newest s.w st.blocks b.kind d.0) ≡ some n = rw p at k in
            let v : newest s.w st.blocks b.kind d.0 ≡ n = cc in
            inl (name-true a b p, sym v ∙ d.2)
        go (inr p) k = inr (ih (rw p at k))
    issued-by (known b m) d a n ih h = ih (rw d.1 at h)
    issued-by no-effect d a n ih h = ih (rw d at h)

module _ (s : Sizes) (st z : State) (es : List Effect) where
  -- The blocks go by the rule on the kinds of the fresh names.
  pub blocks-by : (e : Effect) → Did s st e z → (x : Blocks) → st.blocks ≡ blocks_after s x (fresh_kinds es) → z.blocks ≡ blocks_after s x (fresh_kinds (e ∷ es))
  unfolding extended
  blocks-by (fresh b m) d x h = rw (d.3, ← h, d.1.block)
  blocks-by (known b m) d x h = rw d.1 h
  blocks-by no-effect d x h = rw d h

  -- So do the counts.
  pub count_by : (e : Effect) → Did s st e z → (k c : ℕ) → length (st.part k).names ≡ how_many c k (fresh_kinds es)
      → length (z.part k).names ≡ how_many c k (fresh_kinds (e ∷ es))
  unfolding extended
  count_by (fresh b m) d k c h = rw d.3 (go (ℕ_discrete b.kind k))
    where
      go : Dec (b.kind ≡ k) → length ((extended s st b d.0).part k).names ≡ how_many c k (b.kind ∷ fresh_kinds es)
      go (yes p) = rw (eq-eqb b.kind k p, eq-eqb k b.kind (sym p)) (ap (λ (j : ℕ). suc (length (st.part j).names)) p ∙ ap suc h)
      go (no p) = rw (ne_eqb b.kind k p, ne_eqb k b.kind (λ u. p (sym u))) h
  count_by (known b m) d k c h = rw d.1 h
  count_by no-effect d k c h = rw d h
