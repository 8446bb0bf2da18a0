-- What each entry promises of its answer and of the bytes of pages, lists and output buffer afterwards, whatever memory is lent. A promise takes the bytes of
-- pages and lists before the call and after it, also where the entry borrows them for reading only. That a name's parts stay is said by the exported contracts.
-- Assumes nothing.
use Rattle.std.specs.Prelude.{ℕ, ◌+◌, ◌/◌, ◌^◌, ◌<◌, ◌≤◌, ◌≡◌, true, ◌⊎◌, length, drop}
use Rattle.std.proofs.Math.Option.{none, some}
use Rattle.slices.specs.Bytes.{Bytes}
use Rattle.slices.specs.Ranges.{within}
use Rattle.refusals.specs.declared.Refusal.{Refusal}
use Rattle.refusals.specs.declared.Refusal.TheVariants.{Unopened, BadKind, ShortBuffer}
use Rattle.refusals.specs.Numbers.{refusal_number}
use Rattle.layout.specs.declared.Sizes.{Sizes}
use Rattle.layout.specs.Sizes.{kinds, page_bytes, list_bytes}
use Rattle.header.specs.Header.{sizes_in, AlwaysUnopened}
use Rattle.model.specs.Names.{Name}
use Rattle.model.specs.Answers.{OpenAnswer, AddAnswer, FindAnswer, ReadAnswer, CountAnswer}
use Rattle.model.specs.State.{State, opened}
use Rattle.model.specs.Steps.{open_answer, checks, add_answer, after_add, find_answer, read_answer, read_buffer, count_answer}
use Rattle.memory.specs.Stands.{Stands}

-- The slices keep their lengths, and the bytes past what the sizes need stay as found.
pub record SameBeyond (s : Sizes) (pages lists pages' lists' : Bytes) : Type 0 where
  pub pages-length : length pages' ≡ length pages
  pub lists_length : length lists' ≡ length lists
  pub pages-beyond : drop (page_bytes s) pages' ≡ drop (page_bytes s) pages
  pub lists-beyond : drop (list_bytes s) lists' ≡ drop (list_bytes s) lists

-- A refusal whose number is from lo to hi.
abbrev pub NumberWithin : ℕ → ℕ → Refusal → Type 0
NumberWithin lo hi why = within lo hi (refusal_number why) ≡ true

-- A number in one of the blocks that the sizes have.
abbrev pub InBlocks : Sizes → ℕ → Type 0
InBlocks s n = n / 2 ^ s.w < s.b

-- ---- open

pub record OpenPost (s : Sizes) (pages lists : Bytes) (r : OpenAnswer) (pages' lists' : Bytes) : Type 0 where
  pub answer : r ≡ open_answer s (length pages) (length lists)
  pub pages-kept : pages' ≡ pages
  pub kept : (why : Refusal) → r ≡ OpenAnswer.refused why → lists' ≡ lists
  pub beyond : SameBeyond s pages lists pages' lists'
  -- Done: a whole dictionary with no names, of exactly these sizes.
  pub whole : r ≡ OpenAnswer.done → Stands s opened pages' lists'

-- ---- add

-- What a legal name gets, whatever the memory was.
abbrev pub AddBounded : Sizes → AddAnswer → Type 0
AddBounded s (AddAnswer.refused why) = (why ≡ Unopened) ⊎ NumberWithin 8 10 why
AddBounded s (AddAnswer.fresh n) = InBlocks s n
AddBounded s (AddAnswer.known n) = InBlocks s n

pub record AddPost (pages lists : Bytes) (a : Name) (r : AddAnswer) (pages' lists' : Bytes) : Type 0 where
  pub unopened : AlwaysUnopened pages lists → r ≡ AddAnswer.refused Unopened
  -- On any memory an illegal name gets its own refusal, or 3;
  pub illegal : (why : Refusal) → checks (sizes_in lists) a ≡ some why → (r ≡ AddAnswer.refused Unopened) ⊎ (r ≡ AddAnswer.refused why)
  -- and a legal one a bounded answer.
  pub bounded : checks (sizes_in lists) a ≡ none → AddBounded (sizes_in lists) r
  -- Only a fresh name is written.
  pub kept : ((n : ℕ) → ¬ (r ≡ AddAnswer.fresh n)) → (pages' ≡ pages) × (lists' ≡ lists)
  pub beyond : SameBeyond (sizes_in lists) pages lists pages' lists'
  pub whole : (s : Sizes) (st : State) → Stands s st pages lists → (r ≡ add_answer s st a) × Stands s (after_add s st a) pages' lists'

-- ---- find

abbrev pub FindBounded : Sizes → FindAnswer → Type 0
FindBounded s (FindAnswer.refused why) = why ≡ Unopened
FindBounded s (FindAnswer.known n) = InBlocks s n
FindBounded s FindAnswer.absent = Unit {0}

pub record FindPost (pages lists : Bytes) (a : Name) (r : FindAnswer) (pages' lists' : Bytes) : Type 0 where
  pub unopened : AlwaysUnopened pages lists → r ≡ FindAnswer.refused Unopened
  pub illegal : (why : Refusal) → checks (sizes_in lists) a ≡ some why → (r ≡ FindAnswer.refused Unopened) ⊎ (r ≡ FindAnswer.refused why)
  pub bounded : checks (sizes_in lists) a ≡ none → FindBounded (sizes_in lists) r
  pub kept : (pages' ≡ pages) × (lists' ≡ lists)
  pub whole : (s : Sizes) (st : State) → Stands s st pages lists → r ≡ find_answer s st a

-- ---- read

-- A name's kind is one of document 01's, and its parts fit the buffer x. Past the parts the buffer y has the bytes of x.
abbrev pub ReadBounded : Bytes → Bytes → ReadAnswer → Type 0
ReadBounded x y (ReadAnswer.refused why) = (why ≡ Unopened) ⊎ (why ≡ ShortBuffer)
ReadBounded x y (ReadAnswer.name k m n) = (k < kinds) × (m + n ≤ length x) × (drop (m + n) y ≡ drop (m + n) x)
ReadBounded x y ReadAnswer.absent = Unit {0}

-- The buffer was x and is y.
pub record ReadPost (pages lists : Bytes) (number : ℕ) (x : Bytes) (r : ReadAnswer) (y pages' lists' : Bytes) : Type 0 where
  pub unopened : AlwaysUnopened pages lists → r ≡ ReadAnswer.refused Unopened
  pub bounded : ReadBounded x y r
  pub kept : (pages' ≡ pages) × (lists' ≡ lists)
  pub buffer-length : length y ≡ length x
  -- Only a name is written into the buffer.
  pub buffer-kept : ((k m n : ℕ) → ¬ (r ≡ ReadAnswer.name k m n)) → y ≡ x
  pub whole : (s : Sizes) (st : State) → Stands s st pages lists → (r ≡ read_answer s st number x) × (y ≡ read_buffer s st number x)

-- ---- count

abbrev pub CountBounded : Sizes → CountAnswer → Type 0
CountBounded s (CountAnswer.refused why) = why ≡ Unopened
CountBounded s (CountAnswer.count n) = n ≤ s.e

pub record CountPost (pages lists : Bytes) (kind : ℕ) (r : CountAnswer) (pages' lists' : Bytes) : Type 0 where
  pub unopened : AlwaysUnopened pages lists → r ≡ CountAnswer.refused Unopened
  pub illegal : kinds ≤ kind → (r ≡ CountAnswer.refused Unopened) ⊎ (r ≡ CountAnswer.refused BadKind)
  pub bounded : kind < kinds → CountBounded (sizes_in lists) r
  pub kept : (pages' ≡ pages) × (lists' ≡ lists)
  pub whole : (s : Sizes) (st : State) → Stands s st pages lists → r ≡ count_answer st kind
