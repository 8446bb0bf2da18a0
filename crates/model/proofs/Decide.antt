-- What an add decides, and what its decision says of the state before it. Assumes nothing.
use Prim.Native.Nat.{ℕ}
use mathlib.Core.Path.{◌≡◌, refl}
use mathlib.Core.Option.{Option, none, some}
use Rattle.refusals.specs.declared.Refusal.{Refusal}
use Rattle.refusals.specs.declared.Refusal.TheVariants.{NoBlock}
use Rattle.layout.specs.declared.Sizes.{Sizes}
use Rattle.blocks.specs.Blocks.{pick}
use Rattle.model.specs.Names.{Name}
use Rattle.model.specs.State.{State, number_of}
use Rattle.model.specs.Steps.{checks, room, refuse, found, enter, decide_block, decide_room, decide_known, decide_checked, decide}

-- The name passed every refusal and was not known; g is its block.
pub record Entering (s : Sizes) (st : State) (a : Name) (g : ℕ) : Type 0 where
  pub legal : checks s a ≡ none
  pub new : number_of s st a ≡ none
  pub roomy : room s st a ≡ none
  pub block : pick s st.blocks a.kind ≡ some g

module _ (s : Sizes) (st : State) (a : Name) where
  pub entering : (g : ℕ) → decide s st a ≡ enter g → Entering s st a g
  unfolding decide
  entering g e = go1 (checks s a) refl e
    where
      go4 : checks s a ≡ none → number_of s st a ≡ none → room s st a ≡ none → (o : Option ℕ) → pick s st.blocks a.kind ≡ o → decide_block o ≡ enter g
          → Entering s st a g
      go4 c n r none p q = cc
      go4 c n r (some h) p q = let u : h ≡ g = cc in record { legal = c; new = n; roomy = r; block = rw u at p }

      go3 : checks s a ≡ none → number_of s st a ≡ none → (o : Option Refusal) → room s st a ≡ o → decide_room s st a o ≡ enter g → Entering s st a g
      go3 c n (some i) p q = cc
      go3 c n none p q = go4 c n p (pick s st.blocks a.kind) refl q

      go2 : checks s a ≡ none → (o : Option ℕ) → number_of s st a ≡ o → decide_known s st a o ≡ enter g → Entering s st a g
      go2 c (some i) p q = cc
      go2 c none p q = go3 c p (room s st a) refl q

      go1 : (o : Option Refusal) → checks s a ≡ o → decide_checked s st a o ≡ enter g → Entering s st a g
      go1 (some i) p q = cc
      go1 none p q = go2 p (number_of s st a) refl q

  pub finding : (n : ℕ) → decide s st a ≡ found n → number_of s st a ≡ some n
  unfolding decide
  finding n e = go1 (checks s a) e
    where
      go4 : (o : Option ℕ) → decide_block o ≡ found n → number_of s st a ≡ some n
      go4 none q = cc
      go4 (some h) q = cc

      go3 : (o : Option Refusal) → decide_room s st a o ≡ found n → number_of s st a ≡ some n
      go3 (some i) q = cc
      go3 none q = go4 (pick s st.blocks a.kind) q

      go2 : (o : Option ℕ) → number_of s st a ≡ o → decide_known s st a o ≡ found n → number_of s st a ≡ some n
      go2 (some i) p q = let u : i ≡ n = cc in rw u at p
      go2 none p q = go3 (room s st a) q

      go1 : (o : Option Refusal) → decide_checked s st a o ≡ found n → number_of s st a ≡ some n
      go1 (some i) q = cc
      go1 none q = go2 (number_of s st a) refl q

  -- ---- each decision, from what led to it

  pub decided-illegal : (why : Refusal) → checks s a ≡ some why → decide s st a ≡ refuse why
  unfolding decide
  decided-illegal why c = rw c

  module _ (c : checks s a ≡ none) where
    pub decided-known : (n : ℕ) → number_of s st a ≡ some n → decide s st a ≡ found n
    unfolding decide
    decided-known n k = rw (c, k)

    module _ (k : number_of s st a ≡ none) where
      pub decided-refused : (why : Refusal) → room s st a ≡ some why → decide s st a ≡ refuse why
      unfolding decide
      decided-refused why r = rw (c, k, r)

      module _ (r : room s st a ≡ none) where
        pub decided-block : pick s st.blocks a.kind ≡ none → decide s st a ≡ refuse NoBlock
        unfolding decide
        decided-block b = rw (c, k, r, b)

        pub decided-enter : (g : ℕ) → pick s st.blocks a.kind ≡ some g → decide s st a ≡ enter g
        unfolding decide
        decided-enter g b = rw (c, k, r, b)
