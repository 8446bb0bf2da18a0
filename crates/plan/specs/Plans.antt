-- The plan of an add, of a new head and its name or of a name alone: within bounds on any memory, and as document 01 has it on memory that stands for a state.
-- Assumes nothing.
use Rattle.std.specs.Prelude.{ℕ, ◌*◌, ◌/◌, ◌^◌, ◌≤◌, ◌<◌, ◌≡◌, ◌⊎◌, Bool, true, false, length, Some, None, Result, Ok, Err}
use Rattle.std.specs.Prelude as Rust
use Rattle.std.proofs.Math.Option.{none, some}
use Rattle.slices.specs.Bytes.{Bytes}
use Rattle.words.specs.Words.{word_at}
use Rattle.refusals.specs.declared.Refusal.{Refusal}
use Rattle.refusals.specs.declared.Refusal.TheVariants as W
use Rattle.layout.specs.declared.Sizes.{Sizes}
use Rattle.layout.specs.Sizes.{kinds}
use Rattle.bytes_buffer.specs.Pages.{all_pages}
use Rattle.bytes_buffer.specs.declared.Spot.{Spot}
use Rattle.bytes_buffer.specs.Spots.{spot_in, untaken_after}
use Rattle.bytes_dictionary.specs.Written.{HasRoom}
use Rattle.blocks.specs.Blocks.{pick}
use Rattle.model.specs.Kinds.{row}
use Rattle.model.specs.State.{State, stamp_of}
use Rattle.memory.specs.Stands.{Stands}
use Rattle.memory.specs.Promises.{NumberWithin}
use Rattle.plan_room.specs.Steps.{head_spot_at, HeadFits}
use Rattle.plan.specs.declared.Plan.{Plan}

-- `new`: is the head a new one? `untaken` is the lowest untaken page, `size` the head's length, `len` the key's.

-- Where the key goes after a head at this spot, or after none.
abbrev pub main_spot_at : Sizes → Bytes → ℕ → Rust.Option Spot → ℕ → ℕ → Result Spot Refusal
main_spot_at s lists k head untaken len = spot_in s (word_at lists) (row k).main_at (untaken_after untaken head) len

-- The same at a state.
abbrev pub head_spot : Sizes → State → Bytes → ℕ → Bool → ℕ → Result (Rust.Option Spot) Refusal
head_spot s st lists k new size = head_spot_at s lists k new (all_pages st.space) size

abbrev pub main_spot : Sizes → State → Bytes → ℕ → Rust.Option Spot → ℕ → Result Spot Refusal
main_spot s st lists k head len = main_spot_at s lists k head (all_pages st.space) len

-- ---- the whole plan

pub record ReadyName (s : Sizes) (st : State) (lists : Bytes) (k : ℕ) (new : Bool) (size len : ℕ) (x : Plan) : Type 0 where
  pub number : x.n ≡ length (st.part k).names
  pub head : head_spot s st lists k new size ≡ Ok x.head
  pub spot : main_spot s st lists k x.head len ≡ Ok x.spot
  pub block : pick s st.blocks k ≡ some x.g
  pub stamp : x.stamp ≡ stamp_of st.blocks

-- Why there is no plan, if the head gets the number f: a list is full; too few pages are left; the rule picks no block.
pub data NoRoom (s : Sizes) (st : State) (lists : Bytes) (k : ℕ) (new : Bool) (f size len : ℕ) : Refusal → Type 0 where
  full : (s.e ≤ length (st.part k).names) ⊎ (s.e ≤ f) → NoRoom s st lists k new f size len W.ListFull
  headless : length (st.part k).names < s.e → f < s.e → new ≡ true → head_spot s st lists k new size ≡ Err W.NoPage → NoRoom s st lists k new f size len W.NoPage
  pageless : length (st.part k).names < s.e → f < s.e → (head : Rust.Option Spot) → head_spot s st lists k new size ≡ Ok head
      → main_spot s st lists k head len ≡ Err W.NoPage
      → NoRoom s st lists k new f size len W.NoPage
  blockless : length (st.part k).names < s.e → f < s.e → (head : Rust.Option Spot) (spot : Spot) → head_spot s st lists k new size ≡ Ok head
      → main_spot s st lists k head len ≡ Ok spot
      → pick s st.blocks k ≡ none
      → NoRoom s st lists k new f size len W.NoBlock

abbrev pub PlanSays : Sizes → State → Bytes → ℕ → Bool → ℕ → ℕ → ℕ → Result Plan Refusal → Type 0
PlanSays s st lists k new f size len (Ok x) = ReadyName s st lists k new size len x
PlanSays s st lists k new f size len (Err why) = NoRoom s st lists k new f size len why

-- What a plan has on any memory.
pub record PlanFits (s : Sizes) (new : Bool) (f size len : ℕ) (x : Plan) : Type 0 where
  pub heads : f < s.e
  pub number : x.n < s.e
  pub head : HeadFits s size new x.head
  pub room : HasRoom s len x.spot
  pub block : x.g < s.b
  pub local : x.n / 2 ^ s.w < s.b
  pub stamp : x.stamp ≤ kinds * s.e

abbrev pub PlanBounded : Sizes → Bool → ℕ → ℕ → ℕ → Result Plan Refusal → Type 0
PlanBounded s new f size len (Ok x) = PlanFits s new f size len x
PlanBounded s new f size len (Err why) = (why ≡ W.Unopened) ⊎ NumberWithin 8 10 why

pub record Plans (s : Sizes) (lists : Bytes) (k : ℕ) (new : Bool) (f size len : ℕ) (r : Result Plan Refusal) : Type 0 where
  pub bounded : PlanBounded s new f size len r
  pub right : (pages : Bytes) (st : State) → Stands s st pages lists → PlanSays s st lists k new f size len r

-- A plan by the head's number and size. Without a size the head is not a new one, and its size may be any.
abbrev pub PlansWith : Sizes → Bytes → ℕ → ℕ → Rust.Option ℕ → ℕ → Result Plan Refusal → Type 0
PlansWith s lists k f (Some size) len r = Plans s lists k true f size len r
PlansWith s lists k f None len r = (size : ℕ) → Plans s lists k false f size len r
