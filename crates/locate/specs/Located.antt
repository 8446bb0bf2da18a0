-- Where a number's name lies in the pages: within bounds on any memory, and the name itself on memory that stands for a state. Assumes nothing.
use Rattle.std.specs.Prelude.{ℕ, ◌*◌, ◌+◌, ◌≤◌, ◌≡◌, false, ◌++◌, length, take, drop, Some, None, Result, Ok, Err}
use Rattle.std.specs.Prelude as Rust
use Rattle.std.proofs.Math.Option.{Option, none, some}
use Rattle.slices.specs.Bytes.{Bytes}
use Rattle.layout.specs.declared.Sizes.{Sizes}
use Rattle.layout.specs.Sizes.{page_size, page_bytes}
use Rattle.layout.specs.Numbers.{kind_number}
use Rattle.model.specs.Names.{Name}
use Rattle.model.specs.State.{State, name_of}
use Rattle.model.specs.Steps.{checks, new_head, key_of}
use Rattle.memory.specs.Stands.{Stands}
use Rattle.string_dv_dict_split.specs.declared.forms.Piece.{Piece}
use Rattle.string_dv_dict_split.specs.declared.forms.Piece.TheVariants.{Raw, Escaped}
use Rattle.locate.specs.declared.pieces.Pieces.{Pieces}
use Rattle.locate.specs.Copied.{pieces_in}
use Rattle.refusals.specs.declared.Refusal.{Refusal}
use Rattle.refusals.specs.declared.Refusal.TheVariants.{Unopened}

-- What the code answers for a number: a name's pieces, or none, or a refusal.
abbrev pub Located : Type 0
Located = Result (Rust.Option Pieces) Refusal

-- The bytes are bytes of the pages, and of the part of them that the sizes need.
pub record LiesIn (s : Sizes) (pages x : Bytes) : Type 0 where
  pub at : ℕ
  pub inside : at + length x ≤ page_bytes s
  pub same : take (length x) (drop at pages) ≡ x

-- Bytes of an entry: they lie in the pages, and are a page's at the most.
pub record EntryIn (s : Sizes) (pages x : Bytes) : Type 0 where
  pub small : length x ≤ page_size s
  pub lies : LiesIn s pages x

-- A piece's bytes as they are stored: an escaped one has its escapes.
abbrev pub stored_bytes : Piece → Bytes
stored_bytes (Raw x) = x.now
stored_bytes (Escaped x) = x.now

-- What holds on any memory: both pieces lie in the bytes of the pages that the sizes need, and both parts together are no longer than two pages.
pub record Within (s : Sizes) (pages : Bytes) (x : Pieces) : Type 0 where
  pub front : LiesIn s pages x.front.now
  pub back : LiesIn s pages (stored_bytes x.back)
  pub small : x.told.first + x.told.second ≤ 2 * page_size s

-- A refusal is number 3.
abbrev pub Bounded : Sizes → Bytes → Located → Type 0
Bounded s pages (Ok (Some x)) = Within s pages x
Bounded s pages (Ok None) = Unit {0}
Bounded s pages (Err why) = why ≡ Unopened

-- The pieces are the name's parts.
pub record Are (a : Name) (x : Pieces) : Type 0 where
  pub kind : kind_number x.told.kind ≡ a.kind
  pub first : x.told.first ≡ length a.first
  pub second : x.told.second ≡ length a.second
  pub bytes : pieces_in x ≡ a.first ++ a.second

abbrev pub Tells : Option Name → Located → Type 0
Tells (some a) (Ok (Some x)) = Are a x
Tells (some a) (Ok None) = ⊥
Tells (some a) (Err why) = ⊥
Tells none (Ok (Some x)) = ⊥
Tells none (Ok None) = Unit {0}
Tells none (Err why) = ⊥

-- An entry that is there has pieces, or its bytes are no name's.
abbrev pub located : Result Pieces Refusal → Located
located (Ok x) = Ok (Some x)
located (Err why) = Err why

-- The answer for an entry of the kind k with these bytes: within bounds, and right if they are the key of the name a.
pub record LocatesEntry (s : Sizes) (pages lists : Bytes) (k : ℕ) (stored : Bytes) (r : Result Pieces Refusal) : Type 0 where
  pub range : Bounded s pages (located r)
  pub right : (st : State) (a : Name) → Stands s st pages lists → checks s a ≡ none → a.kind ≡ k → new_head a (st.part k) ≡ false
      → stored ≡ key_of (st.part k).heads a
      → Tells (some a) (located r)

-- The same for an entry that is read without another one: for all memory in which it lies.
abbrev pub LocatesAlone : ℕ → Bytes → Result Pieces Refusal → Type 0
LocatesAlone k stored r = (s : Sizes) (pages lists : Bytes) → EntryIn s pages stored → LocatesEntry s pages lists k stored r

-- The answer for a number: within bounds, and the name that has it.
pub record LocatesName (s : Sizes) (pages lists : Bytes) (number : ℕ) (r : Located) : Type 0 where
  pub range : Bounded s pages r
  pub right : (st : State) → Stands s st pages lists → Tells (name_of s st number) r
