-- What the steps of a plan answer: the spot of a new head, the next stamp, the block and the stamp of a name, the room in the lists. Assumes nothing.
use Rattle.std.specs.Prelude.{ℕ, ◌*◌, ◌/◌, ◌^◌, ◌≤◌, ◌<◌, ◌≡◌, ◌⊎◌, Bool, true, false, cond, Some, None, Result, Ok, Err}
use Rattle.std.specs.Prelude as Rust
use Rattle.std.proofs.Math.Option.{Option, none, some}
use Rattle.slices.specs.Bytes.{Bytes}
use Rattle.words.specs.Words.{word_at}
use Rattle.refusals.specs.declared.Refusal.{Refusal}
use Rattle.refusals.specs.declared.Refusal.TheVariants as W
use Rattle.layout.specs.declared.Sizes.{Sizes}
use Rattle.layout.specs.Sizes.{kinds}
use Rattle.layout.specs.Fields.{count_at, untaken_at}
use Rattle.bytes_buffer.specs.declared.Spot.{Spot}
use Rattle.bytes_buffer.specs.Spots.{lowest_of, spot_in, InPages}
use Rattle.bytes_dictionary.specs.Written.{HasRoom}
use Rattle.bytes_dictionary.specs.Reading.{count_in}
use Rattle.blocks.specs.Blocks.{pick}
use Rattle.model.specs.Kinds.{row}
use Rattle.model.specs.State.{State, stamp_of}
use Rattle.memory.specs.Stands.{Stands}
use Rattle.plan_room.specs.declared.Chosen.{Chosen}
use Rattle.plan_room.specs.declared.Head.{Head}
use Rattle.plan_room.specs.declared.Room.{Room}

-- ---- a new head, if there is one

-- Is there a new head? Its number, and how many bytes it has; 0 without one.
abbrev pub is_new : Rust.Option Head → Bool
is_new None = false
is_new (Some x) = true

abbrev pub head_number : Rust.Option Head → ℕ
head_number None = 0
head_number (Some x) = x.f

abbrev pub head_size : Rust.Option Head → ℕ
head_size None = 0
head_size (Some x) = x.size

-- Where the head goes. A head that is not new goes nowhere.
abbrev pub some_spot : Result Spot Refusal → Result (Rust.Option Spot) Refusal
some_spot (Ok spot) = Ok (Some spot)
some_spot (Err why) = Err why

abbrev pub head_spot_at : Sizes → Bytes → ℕ → Bool → ℕ → ℕ → Result (Rust.Option Spot) Refusal
head_spot_at s lists k new untaken size = cond new (some_spot (spot_in s (word_at lists) (row k).heads_at untaken size)) (Ok None)

-- The head, if it is a new one, has a spot with room for it.
abbrev pub HeadFits : Sizes → ℕ → Bool → Rust.Option Spot → Type 0
HeadFits s size new (Some spot) = (new ≡ true) × HasRoom s size spot
HeadFits s size new None = new ≡ false

abbrev pub PlansHead : Sizes → Bytes → ℕ → Bool → ℕ → ℕ → Result (Rust.Option Spot) Refusal → Type 0
PlansHead s lists k new untaken size (Ok head) = (head_spot_at s lists k new untaken size ≡ Ok head) × HeadFits s size new head
PlansHead s lists k new untaken size (Err why) = (new ≡ true) × (spot_in s (word_at lists) (row k).heads_at untaken size ≡ Err why) × InPages s untaken size (Err why)

-- ---- the next stamp

abbrev pub StampBelow : Sizes → Result ℕ Refusal → Type 0
StampBelow s (Ok t) = t ≤ kinds * s.e
StampBelow s (Err why) = why ≡ W.Unopened

pub record Stamps (s : Sizes) (lists : Bytes) (r : Result ℕ Refusal) : Type 0 where
  pub range : StampBelow s r
  pub right : (pages : Bytes) (st : State) → Stands s st pages lists → r ≡ Ok (stamp_of st.blocks)

-- ---- the block and the stamp of the kind k's name number n

abbrev pub chosen_by : ℕ → Option ℕ → Result Chosen Refusal
chosen_by stamp none = Err W.NoBlock
chosen_by stamp (some g) = Ok (record { g = g; stamp = stamp })

abbrev pub ChosenBounded : Sizes → ℕ → Result Chosen Refusal → Type 0
ChosenBounded s n (Ok x) = (x.g < s.b) × (n / 2 ^ s.w < s.b) × (x.stamp ≤ kinds * s.e)
ChosenBounded s n (Err why) = (why ≡ W.Unopened) ⊎ (why ≡ W.NoBlock)

pub record Chooses (s : Sizes) (lists : Bytes) (k n : ℕ) (r : Result Chosen Refusal) : Type 0 where
  pub bounded : ChosenBounded s n r
  pub right : (pages : Bytes) (st : State) → Stands s st pages lists → st.blocks.next k ≡ n → r ≡ chosen_by (stamp_of st.blocks) (pick s st.blocks k)

-- ---- the room in the lists, for a name of the kind k and for a head with the number f

-- The word of a kind's count.
abbrev pub count_word : Bytes → ℕ → ℕ
count_word lists k = word_at lists (count_at (row k).main_at)

-- The count of the names and the number of the head are below e, and u is the lowest untaken page.
pub record Counts (s : Sizes) (lists : Bytes) (k f n u : ℕ) : Type 0 where
  pub counted : count_in s (count_word lists k) ≡ Ok n
  pub room : n < s.e
  pub head-room : f < s.e
  pub lowest : lowest_of s (word_at lists untaken_at) ≡ Ok u

-- Why not: the count is none, one of them is not below e, or the page is none.
pub data Uncounted (s : Sizes) (lists : Bytes) (k f : ℕ) : Refusal → Type 0 where
  bad-count : count_in s (count_word lists k) ≡ Err W.Unopened → Uncounted s lists k f W.Unopened
  full-list : (n : ℕ) → count_in s (count_word lists k) ≡ Ok n → (s.e ≤ n) ⊎ (s.e ≤ f) → Uncounted s lists k f W.ListFull
  bad-page : lowest_of s (word_at lists untaken_at) ≡ Err W.Unopened → Uncounted s lists k f W.Unopened

abbrev pub RoomIn : Sizes → Bytes → ℕ → ℕ → Result Room Refusal → Type 0
RoomIn s lists k f (Ok x) = Counts s lists k f x.n x.untaken
RoomIn s lists k f (Err why) = Uncounted s lists k f why
