-- What each entry answers at a state, and the state after it, by document 01's order of refusals. Refusal 3 is decided by the memory. Assumes nothing.
use Rattle.std.specs.Prelude.{ℕ, Bool, true, false, ◌&&◌, ◌||◌, not, cond, List, ◌∷◌, ◌++◌, leb, ltb, length, drop}
use Rattle.std.proofs.Math.Option.{Option, none, some}
pub use Rattle.slices.specs.Updates.{upd}
use Rattle.slices.specs.Bytes.{Bytes, is_empty}
use Rattle.refusals.specs.declared.Refusal.{Refusal}
use Rattle.refusals.specs.declared.Refusal.TheVariants.{BadSize, ShortMemory, BadKind, TooLong, NotText, NoTag, ListFull, NoPage, NoBlock, ShortBuffer}
use Rattle.utf8.specs.Text.{is_text}
use Rattle.ranked_pair_dictionary.specs.FrequentId.{fid}
use Rattle.layout.specs.declared.Sizes.{Sizes}
use Rattle.layout.specs.Sizes.{in_range, limit, kinds, page_bytes, list_bytes}
use Rattle.bytes_buffer.specs.Pages.{Space, grown_at, all_pages}
use Rattle.blocks.specs.Blocks.{pick, took, newest}
use Rattle.model.specs.Names.{Name, size}
use Rattle.model.specs.Answers.{OpenAnswer, AddAnswer, FindAnswer, ReadAnswer, CountAnswer}
use Rattle.model.specs.Kinds.{row}
use Rattle.model.specs.State.{Part, State, stamp_of, entry_number, number_of, name_of}

-- ---- open: 1, 2

-- The answer of open for slices of these lengths.
unfoldable pub open_answer : Sizes → ℕ → ℕ → OpenAnswer
open_answer s pages lists =
    cond (not (in_range s)) (OpenAnswer.refused BadSize)
    (cond (ltb pages (page_bytes s) || ltb lists (list_bytes s)) (OpenAnswer.refused ShortMemory) OpenAnswer.done)

-- ---- the name given: 4 to 7

-- No such kind, or a second part where there may be none.
abbrev pub bad_kind : Name → Bool
bad_kind a = leb kinds a.kind || ((row a.kind).no_second && not (is_empty a.second))

-- The refusals of a name's shape: 4, 5.
unfoldable pub shape_refusal : Sizes → Name → Option Refusal
shape_refusal s a = cond (bad_kind a) (some BadKind) (cond (ltb (limit s) (size a)) (some TooLong) none)

-- The refusals of its text: 6, 7.
unfoldable pub text_refusal : Name → Option Refusal
text_refusal a =
    cond (not (is_text a.first && is_text a.second)) (some NotText)
    (cond ((row a.kind).needs_tag && is_empty a.second) (some NoTag) none)

-- The shape's refusal, if there is one, else the text's.
abbrev pub refused_first : Option Refusal → Option Refusal → Option Refusal
refused_first (some why) o = some why
refused_first none o = o

unfoldable pub checks : Sizes → Name → Option Refusal
checks s a = refused_first (shape_refusal s a) (text_refusal a)

-- ---- the entries that a new name makes in its kind's part

abbrev pub is_none : {A : Type 0} → Option A → Bool
is_none none = true
is_none (some x) = false

abbrev pub or_else : ℕ → Option ℕ → ℕ
or_else n none = n
or_else n (some f) = f

abbrev pub name_head : Name → Bytes
name_head a = (row a.kind).head a

-- Whether the name has a head that is not stored yet.
abbrev pub new_head : Name → Part → Bool
new_head a pt = (row a.kind).paired && is_none (entry_number (name_head a) pt.heads)

-- What the main dictionary stores if these are the heads: the rest. In a paired kind the frequent id of the head comes first; a new head gets the next number.
abbrev pub key_of : List Bytes → Name → Bytes
key_of hs a = cond (row a.kind).paired (fid (or_else (length hs) (entry_number (name_head a) hs)) ++ (row a.kind).rest a) ((row a.kind).rest a)

-- ---- room for them: 8, 9

-- Whether a full dictionary would gain an entry.
abbrev pub is_full : Sizes → Name → Part → Bool
is_full s a pt = leb s.e (length pt.names) || (new_head a pt && leb s.e (length pt.heads))

-- The spaces after the head is stored, if it is new; then after the main entry is stored too.
abbrev pub space_head : Sizes → State → Name → ℕ → Space
space_head s st a = cond (new_head a (st.part a.kind)) (grown_at s st.space (row a.kind).heads_at (length (name_head a))) st.space

abbrev pub space_after : Sizes → State → Name → ℕ → Space
space_after s st a = grown_at s (space_head s st a) (row a.kind).main_at (length (key_of (st.part a.kind).heads a))

unfoldable pub room : Sizes → State → Name → Option Refusal
room s st a =
    cond (is_full s a (st.part a.kind)) (some ListFull)
    (cond (ltb s.n (all_pages (space_after s st a))) (some NoPage) none)

-- ---- add: decide, then write

-- `enter g`: a fresh name, in the block g.
pub data Decision : Type 0 where
  refuse : Refusal → Decision
  found : ℕ → Decision
  enter : ℕ → Decision

abbrev pub decide_block : Option ℕ → Decision
decide_block none = refuse NoBlock
decide_block (some g) = enter g

abbrev pub decide_room : Sizes → State → Name → Option Refusal → Decision
decide_room s st a (some why) = refuse why
decide_room s st a none = decide_block (pick s st.blocks a.kind)

abbrev pub decide_known : Sizes → State → Name → Option ℕ → Decision
decide_known s st a (some n) = found n
decide_known s st a none = decide_room s st a (room s st a)

abbrev pub decide_checked : Sizes → State → Name → Option Refusal → Decision
decide_checked s st a (some why) = refuse why
decide_checked s st a none = decide_known s st a (number_of s st a)

unfoldable pub decide : Sizes → State → Name → Decision
decide s st a = decide_checked s st a (checks s a)

abbrev pub part_after : Name → Part → ℕ → Part
part_after a pt t =
    record {
      names = record { name = a; stamp = t } ∷ pt.names;
      heads = cond (new_head a pt) (name_head a ∷ pt.heads) pt.heads;
    }

-- The state with the fresh name a, in the block g.
unfoldable pub extended : Sizes → State → Name → ℕ → State
extended s st a g =
    record {
      part = upd st.part a.kind (part_after a (st.part a.kind) (stamp_of st.blocks));
      blocks = took s.w st.blocks a.kind g;
      space = space_after s st a;
    }

abbrev pub answer_by : Sizes → State → Name → Decision → AddAnswer
answer_by s st a (refuse why) = AddAnswer.refused why
answer_by s st a (found n) = AddAnswer.known n
answer_by s st a (enter g) = AddAnswer.fresh (newest s.w st.blocks a.kind g)

abbrev pub state_by : Sizes → State → Name → Decision → State
state_by s st a (refuse why) = st
state_by s st a (found n) = st
state_by s st a (enter g) = extended s st a g

abbrev pub add_answer : Sizes → State → Name → AddAnswer
add_answer s st a = answer_by s st a (decide s st a)

abbrev pub after_add : Sizes → State → Name → State
after_add s st a = state_by s st a (decide s st a)

-- ---- find, read, count: the state stays

abbrev pub find_by : Option ℕ → FindAnswer
find_by none = FindAnswer.absent
find_by (some n) = FindAnswer.known n

abbrev pub find_checked : Sizes → State → Name → Option Refusal → FindAnswer
find_checked s st a (some why) = FindAnswer.refused why
find_checked s st a none = find_by (number_of s st a)

abbrev pub find_answer : Sizes → State → Name → FindAnswer
find_answer s st a = find_checked s st a (checks s a)

abbrev pub name_answer : Name → ReadAnswer
name_answer a = ReadAnswer.name a.kind (length a.first) (length a.second)

-- The parts stand one after the other at the buffer's start. The rest is as it was.
abbrev pub name_written : Name → Bytes → Bytes
name_written a buffer = a.first ++ a.second ++ drop (size a) buffer

abbrev pub read_by : Bytes → Option Name → ReadAnswer
read_by buffer none = ReadAnswer.absent
read_by buffer (some a) = cond (leb (size a) (length buffer)) (name_answer a) (ReadAnswer.refused ShortBuffer)

abbrev pub buffer_by : Bytes → Option Name → Bytes
buffer_by buffer none = buffer
buffer_by buffer (some a) = cond (leb (size a) (length buffer)) (name_written a buffer) buffer

abbrev pub read_answer : Sizes → State → ℕ → Bytes → ReadAnswer
read_answer s st n buffer = read_by buffer (name_of s st n)

abbrev pub read_buffer : Sizes → State → ℕ → Bytes → Bytes
read_buffer s st n buffer = buffer_by buffer (name_of s st n)

abbrev pub count_answer : State → ℕ → CountAnswer
count_answer st k = cond (leb kinds k) (CountAnswer.refused BadKind) (CountAnswer.count (length (st.part k).names))
