-- Facts of every state that calls can reach. A program could check them. Assumes nothing.
use Rattle.std.specs.Prelude.{ℕ, zero, ◌*◌, ◌^◌, ◌<◌, ◌≤◌, true, false, ◌≡◌, List, [], ◌∷◌, length}
use Rattle.std.proofs.Math.Option.{none, some}
use Rattle.slices.specs.Bytes.{Bytes}
use Rattle.layout.specs.declared.Sizes.{Sizes}
use Rattle.layout.specs.Sizes.{InRange, dictionaries}
use Rattle.bytes_buffer.specs.Pages.{all_pages}
use Rattle.blocks.specs.Sound.{Sound, Below}
use Rattle.model.specs.Kinds.{row}
use Rattle.model.specs.State.{Stamped, Part, State, stamp_of, local_of, entry_number}
use Rattle.model.specs.Steps.{checks, name_head}

-- Names of the kind k, newest first: all are legal and no two are equal. Their stamps fall along the list, and all are below t.
abbrev pub NamesOf : Sizes → ℕ → ℕ → List Stamped → Type 0
NamesOf s k t [] = Unit {0}
NamesOf s k t (x ∷ xs) = (checks s x.name ≡ none) × (x.name.kind ≡ k) × (local_of x.name xs ≡ none) × (x.stamp < t) × NamesOf s k x.stamp xs

abbrev pub Different : List Bytes → Type 0
Different [] = Unit {0}
Different (h ∷ hs) = (entry_number h hs ≡ none) × Different hs

-- Each name's head is among the heads.
abbrev pub Covered : List Bytes → List Stamped → Type 0
Covered hs [] = Unit {0}
Covered hs (x ∷ xs) = ((f : ℕ) × (entry_number (name_head x.name) hs ≡ some f)) × Covered hs xs

-- The part of the kind k, where t is the next stamp and n the kind's next local number.
pub record GoodPart (s : Sizes) (k t n : ℕ) (pt : Part) : Type 0 where
  pub names : NamesOf s k t pt.names
  pub numbered : n ≡ length pt.names
  pub few_names : length pt.names ≤ s.e
  pub different : Different pt.heads
  pub few_heads : length pt.heads ≤ s.e
  pub covered : (row k).paired ≡ true → Covered pt.heads pt.names
  pub headless : (row k).paired ≡ false → pt.heads ≡ []

pub record Good (s : Sizes) (st : State) : Type 0 where
  pub sizes : InRange s
  pub sound : Sound s.w st.blocks
  pub below : Below s.b st.blocks
  pub part : (k : ℕ) → GoodPart s k (stamp_of st.blocks) (st.blocks.next k) (st.part k)
  pub used : (d : ℕ) → (st.space d).used ≤ 2 ^ s.p
  pub taken : all_pages st.space ≤ s.n
  -- Numbers of the state that no memory holds are zero. So one memory stands for one state.
  pub unused : (k l : ℕ) → st.blocks.next k ≤ l * 2 ^ s.w → st.blocks.block_of k l ≡ zero
  pub pageless : (d : ℕ) → (st.space d).taken ≡ zero → (st.space d).used ≡ zero
  pub beyond : (d : ℕ) → dictionaries ≤ d → (st.space d).taken ≡ zero
