-- Calls of the exported entries with what they returned. The contracts cite the first part, the theorem on lists all of it. Assumes nothing.
use Rattle.std.specs.Prelude.{ℕ, ◌≡◌, List}
use Rattle.slices.specs.Bytes.{Bytes}
use Rattle.layout.specs.declared.Sizes.{Sizes}
use Rattle.model.specs.Names.{Name}
use Rattle.model.specs.Answers.{OpenAnswer, AddAnswer, FindAnswer, ReadAnswer, CountAnswer}
use Rattle.model.specs.Calls.{Event}
use Rattle.memory.specs.Promises.{OpenPost, AddPost, FindPost, ReadPost, CountPost}
use Rattle.memory.specs.Lists.{Memory, InTurn, Bringing}
use Rattle.numbers.specs.declared.NamedictNumbered.{NamedictNumbered}
use Rattle.numbers.specs.declared.NamedictName.{NamedictName}
use Rattle.numbers.specs.declared.NamedictCounted.{NamedictCounted}
use Rattle.numbers.specs.Numbers.{open_number, add_numbers, find_numbers, name_numbers, count_numbers}
use Rattle.numbers.specs.Answers.{add_of, find_of, read_of, count_of}

-- ---- one call: there is an answer, the numbers returned are its numbers, and the entry's promise holds of it

abbrev pub OpenReturned : Sizes → Bytes → Bytes → ℕ → Bytes → Bytes → Type 0
OpenReturned s pages lists r pages' lists' = (x : OpenAnswer) × (r ≡ open_number x) × OpenPost s pages lists x pages' lists'

abbrev pub AddReturned : Bytes → Bytes → Name → NamedictNumbered → Bytes → Bytes → Type 0
AddReturned pages lists a r pages' lists' = (x : AddAnswer) × (r ≡ add_numbers x) × AddPost pages lists a x pages' lists'

abbrev pub FindReturned : Bytes → Bytes → Name → NamedictNumbered → Bytes → Bytes → Type 0
FindReturned pages lists a r pages' lists' = (x : FindAnswer) × (r ≡ find_numbers x) × FindPost pages lists a x pages' lists'

-- The buffer was b and is c.
abbrev pub ReadReturned : Bytes → Bytes → ℕ → Bytes → NamedictName → Bytes → Bytes → Bytes → Type 0
ReadReturned pages lists n b r c pages' lists' = (x : ReadAnswer) × (r ≡ name_numbers x) × ReadPost pages lists n b x c pages' lists'

abbrev pub CountReturned : Bytes → Bytes → ℕ → NamedictCounted → Bytes → Bytes → Type 0
CountReturned pages lists k r pages' lists' = (x : CountAnswer) × (r ≡ count_numbers x) × CountPost pages lists k x pages' lists'

-- ---- lists of calls

-- A call and what it returned. A read has its number, the buffer before, what it returned, the buffer after.
pub data Returned : Type 0 where
  add : Name → NamedictNumbered → Returned
  find : Name → NamedictNumbered → Returned
  read : ℕ → Bytes → NamedictName → Bytes → Returned
  count : ℕ → NamedictCounted → Returned

-- One call: the memory before, the call with what it returned, the memory after.
abbrev pub Exported : Memory → Returned → Memory → Type 0
Exported m (add a r) m' = AddReturned m.pages m.lists a r m'.pages m'.lists
Exported m (find a r) m' = FindReturned m.pages m.lists a r m'.pages m'.lists
Exported m (read n b r c) m' = ReadReturned m.pages m.lists n b r c m'.pages m'.lists
Exported m (count k r) m' = CountReturned m.pages m.lists k r m'.pages m'.lists

-- The calls of the list, newest first, begin with m and leave z. Each gets the memory as the call before left it.
abbrev pub ExportedCalls : Memory → List Returned → Memory → Type 0
ExportedCalls m es z = InTurn Exported m es z

-- The same if each call may bring other slices, with the dictionary as the call before left it.
abbrev pub ExportedBrings : Sizes → Memory → Returned → Memory → Type 0
ExportedBrings s m e z = Bringing Exported s m e z

abbrev pub ExportedBrought : Sizes → Memory → List Returned → Memory → Type 0
ExportedBrought s m es z = InTurn (ExportedBrings s) m es z

-- The refusal that a call returned, 0 if it was accepted.
abbrev pub refusal_in : Returned → ℕ
refusal_in (add a r) = r.refusal
refusal_in (find a r) = r.refusal
refusal_in (read n b r c) = r.refusal
refusal_in (count k r) = r.refusal

-- The call with the answer that its numbers tell.
abbrev pub event_of : Returned → Event
event_of (add a r) = Event.add a (add_of r)
event_of (find a r) = Event.find a (find_of r)
event_of (read n b r c) = Event.read n b (read_of r) c
event_of (count k r) = Event.count k (count_of r)
