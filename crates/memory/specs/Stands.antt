-- Which memory stands for which state: facts that a program could check. They do not fix where in the pages an entry lies. Assumes nothing.
use Rattle.std.specs.Prelude.{ℕ, ◌<◌, ◌≡◌, true, cond, List, [], ◌∷◌, eqb, length}
use Rattle.std.proofs.Math.Option.{Option, none, some}
use Rattle.slices.specs.Bytes.{Bytes}
use Rattle.layout.specs.declared.Sizes.{Sizes}
use Rattle.layout.specs.Sizes.{kinds, dictionaries}
use Rattle.bytes_dictionary.specs.Store.{Store, StoreAt}
use Rattle.blocks.specs.Tables.{BlocksAt}
use Rattle.model.specs.Kinds.{row}
use Rattle.model.specs.State.{Stamped, Part, State, stamp_of}
use Rattle.model.specs.Keys.{keys_of}
use Rattle.model.specs.Good.{Good}

-- Entry number i of a list with the newest first: i entries are older.
abbrev pub entry_in : ℕ → List Bytes → Option Bytes
entry_in i [] = none
entry_in i (x ∷ xs) = cond (eqb i (length xs)) (some x) (entry_in i xs)

abbrev pub stamp_in : ℕ → List Stamped → ℕ
stamp_in i [] = 0
stamp_in i (x ∷ xs) = cond (eqb i (length xs)) x.stamp (stamp_in i xs)

-- The dictionaries of the kind k hold its part. A head has the stamp of the add that brought it, which is below the next stamp t.
pub record PartIn (store : Store) (k t : ℕ) (pt : Part) : Type 0 where
  pub main : (i : ℕ) → store.entries (row k).main_at i ≡ entry_in i (keys_of pt.heads pt.names)
  pub stamps : (i : ℕ) → store.stamp (row k).main_at i ≡ stamp_in i pt.names
  pub heads : (row k).paired ≡ true → (i : ℕ) → store.entries (row k).heads_at i ≡ entry_in i pt.heads
  pub older : (row k).paired ≡ true → (i : ℕ) → i < length pt.heads → store.stamp (row k).heads_at i < t

-- This memory holds a dictionary of these sizes in this state.
pub record Stands (s : Sizes) (st : State) (pages lists : Bytes) : Type 0 where
  pub good : Good s st
  pub store : Store
  pub stored : StoreAt s store pages lists
  pub blocked : BlocksAt s st.blocks lists
  pub parts : (k : ℕ) → k < kinds → PartIn store k (stamp_of st.blocks) (st.part k)
  pub spaces : (d : ℕ) → d < dictionaries → store.space d ≡ st.space d
