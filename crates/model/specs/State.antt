-- The dictionary's state, and what is looked up in it. Assumes nothing.
use Rattle.std.specs.Prelude.{ℕ, ◌+◌, ◌*◌, ◌/◌, ◌%◌, ◌^◌, cond, List, [], ◌∷◌, eqb, length}
use Rattle.std.proofs.Math.Option.{Option, none, some}
use Rattle.slices.specs.Bytes.{Bytes, same_bytes}
use Rattle.layout.specs.declared.Sizes.{Sizes}
use Rattle.layout.specs.Sizes.{kinds}
use Rattle.bytes_buffer.specs.Pages.{Space, no_space, sum}
use Rattle.blocks.specs.Blocks.{Block, free, held, Blocks, no_blocks, global}
use Rattle.model.specs.Names.{Name, same_name}

-- A name with its order stamp: how many local numbers all kinds had used up before it.
pub record Stamped : Type 0 where
  pub name : Name
  pub stamp : ℕ

-- What a kind has: its names and its heads, newest first.
pub record Part : Type 0 where
  pub names : List Stamped
  pub heads : List Bytes

-- Parts by kind, spaces by dictionary.
pub record State : Type 0 where
  pub part : ℕ → Part
  pub blocks : Blocks
  pub space : ℕ → Space

-- A freshly opened dictionary: no names.
abbrev pub opened : State
opened = record { part = λ k. record { names = []; heads = [] }; blocks = no_blocks; space = no_space }

-- The next stamp.
abbrev pub stamp_of : Blocks → ℕ
stamp_of b = sum b.next kinds

-- ---- local numbers: how many of the list are older

abbrev pub local_of : Name → List Stamped → Option ℕ
local_of a [] = none
local_of a (x ∷ xs) = cond (same_name a x.name) (some (length xs)) (local_of a xs)

abbrev pub name_in : ℕ → List Stamped → Option Name
name_in n [] = none
name_in n (x ∷ xs) = cond (eqb n (length xs)) (some x.name) (name_in n xs)

abbrev pub entry_number : Bytes → List Bytes → Option ℕ
entry_number h [] = none
entry_number h (x ∷ xs) = cond (same_bytes h x) (some (length xs)) (entry_number h xs)

-- ---- global numbers

abbrev pub global_of : ℕ → Blocks → ℕ → Option ℕ → Option ℕ
global_of w b k none = none
global_of w b k (some n) = some (global w b k n)

-- The number that a name has.
unfoldable pub number_of : Sizes → State → Name → Option ℕ
number_of s st a = global_of s.w st.blocks a.kind (local_of a (st.part a.kind).names)

abbrev pub name_at : ℕ → State → ℕ → Block → Option Name
name_at w st n free = none
name_at w st n (held k l) = name_in (l * 2 ^ w + n % 2 ^ w) (st.part k).names

-- The name that has a number.
unfoldable pub name_of : Sizes → State → ℕ → Option Name
name_of s st n = name_at s.w st n (st.blocks.owner (n / 2 ^ s.w))
