-- No answer at a state is refusal 3: that one is decided by the memory alone. Assumes nothing.
use Prim.Native.Nat.{ℕ}
use mathlib.Core.Path.{◌≡◌, ap}
use mathlib.Core.Logic.{◌≢◌}
use mathlib.Core.Bool.{Bool, true, false, ◌&&◌, not, cond}
use mathlib.Core.Option.{Option, none, some}
use native.Mathlib.Omega.{arith}
use lib.Dec.{leb, ltb}
use lib.ListN.{length}
use Rattle.slices.specs.Bytes.{Bytes, is_empty}
use Rattle.utf8.specs.Text.{is_text}
use Rattle.refusals.specs.declared.Refusal.{Refusal}
use Rattle.refusals.specs.declared.Refusal.TheVariants.{Unopened, BadKind, TooLong, NotText, NoTag, ListFull, NoPage, NoBlock, ShortBuffer}
use Rattle.refusals.specs.Numbers.{refusal_number}
use Rattle.layout.specs.declared.Sizes.{Sizes}
use Rattle.layout.specs.Sizes.{limit, kinds}
use Rattle.bytes_buffer.specs.Pages.{all_pages}
use Rattle.blocks.specs.Blocks.{pick}
use Rattle.model.specs.Names.{Name, size}
use Rattle.model.specs.Kinds.{row}
use Rattle.model.specs.Answers.{AddAnswer, FindAnswer, ReadAnswer, CountAnswer}
use Rattle.model.specs.State.{State, number_of, name_of}
use Rattle.model.specs.Steps.{bad_kind, is_full, space_after, shape_refusal, text_refusal, refused_first, checks, room, Decision, refuse, found, enter, decide_block, decide_room, decide_known, decide_checked, decide, answer_by, find_by, find_checked, read_by}
use Rattle.model.specs.Calls.{Event, add, find, read, count}
use Rattle.model.specs.Runs.{RefusedFor, RightAnswer}

-- A refusal with another number is another one.
other : (why : Refusal) → refusal_number why ≢ 3 → why ≢ Unopened
other why n e = n (ap refusal_number e)

-- ---- refusals that may be none

unfoldable Other : Option Refusal → Type 0
Other none = Unit {0}
Other (some why) = why ≢ Unopened

no-refusal : Other none
unfolding Other
no-refusal = tt

by-test : (c : Bool) (why : Refusal) (o : Option Refusal) → refusal_number why ≢ 3 → Other o → Other (cond c (some why) o)
unfolding Other
by-test true why o n h = other why n
by-test false why o n h = h

by_first : (o p : Option Refusal) → Other o → Other p → Other (refused_first o p)
unfolding Other
by_first none p h g = g
by_first (some why) p h g = h

checks-other : (s : Sizes) (a : Name) → Other (checks s a)
unfolding checks shape_refusal text_refusal
checks-other s a =
    by_first (shape_refusal s a) (text_refusal a)
    (by-test (bad_kind a) BadKind _ (omega arith) (by-test (ltb (limit s) (size a)) TooLong none (omega arith) no-refusal))
    (by-test (not (is_text a.first && is_text a.second)) NotText _ (omega arith) (by-test ((row a.kind).needs_tag && is_empty a.second) NoTag none (omega arith) no-refusal))

room-other : (s : Sizes) (st : State) (a : Name) → Other (room s st a)
unfolding room
room-other s st a =
    by-test (is_full s a (st.part a.kind)) ListFull _ (omega arith) (by-test (ltb s.n (all_pages (space_after s st a))) NoPage none (omega arith) no-refusal)

-- ---- what an add decides

abbrev OtherDecision : Decision → Type 0
OtherDecision (refuse why) = why ≢ Unopened
OtherDecision (found n) = Unit {0}
OtherDecision (enter g) = Unit {0}

by-block : (o : Option ℕ) → OtherDecision (decide_block o)
by-block none = other NoBlock (omega arith)
by-block (some g) = tt

by-room : (s : Sizes) (st : State) (a : Name) (o : Option Refusal) → Other o → OtherDecision (decide_room s st a o)
unfolding Other
by-room s st a none h = by-block (pick s st.blocks a.kind)
by-room s st a (some why) h = h

by-known : (s : Sizes) (st : State) (a : Name) (o : Option ℕ) → OtherDecision (decide_known s st a o)
by-known s st a none = by-room s st a (room s st a) (room-other s st a)
by-known s st a (some n) = tt

by-checks : (s : Sizes) (st : State) (a : Name) (o : Option Refusal) → Other o → OtherDecision (decide_checked s st a o)
unfolding Other
by-checks s st a none h = by-known s st a (number_of s st a)
by-checks s st a (some why) h = h

decide-other : (s : Sizes) (st : State) (a : Name) → OtherDecision (decide s st a)
unfolding decide
decide-other s st a = by-checks s st a (checks s a) (checks-other s a)

-- ---- the answers

-- A contradiction from two answers of different cases.
apart : ◌≡◌ {A = ℕ} 0 1 → ⊥
apart z = absurd (omega arith)

add-other : (s : Sizes) (st : State) (a : Name) (d : Decision) → OtherDecision d → answer_by s st a d ≢ AddAnswer.refused Unopened
add-other s st a (refuse why) h e = h cc
add-other s st a (found n) h e = apart cc
add-other s st a (enter g) h e = apart cc

find-other : (s : Sizes) (st : State) (a : Name) (o : Option Refusal) → Other o → find_checked s st a o ≢ FindAnswer.refused Unopened
unfolding Other
find-other s st a (some why) h e = h cc
find-other s st a none h e = go (number_of s st a) e
  where
    go : (o : Option ℕ) → find_by o ≢ FindAnswer.refused Unopened
    go none e = apart cc
    go (some n) e = apart cc

read-other : (b : Bytes) (o : Option Name) → read_by b o ≢ ReadAnswer.refused Unopened
read-other b none e = apart cc
read-other b (some a) e = go (leb (size a) (length b)) e
  where
    go : (c : Bool) → cond c (ReadAnswer.name a.kind (length a.first) (length a.second)) (ReadAnswer.refused ShortBuffer) ≢ ReadAnswer.refused Unopened
    go true e = apart cc
    go false e = other ShortBuffer (omega arith) cc

count-other : (c : Bool) (n : ℕ) → cond c (CountAnswer.refused BadKind) (CountAnswer.count n) ≢ CountAnswer.refused Unopened
count-other true n e = other BadKind (omega arith) cc
count-other false n e = apart cc

pub never-unopened : (s : Sizes) (st : State) (e : Event) → RightAnswer s st e → ¬ RefusedFor Unopened e
never-unopened s st (add a r) q e = add-other s st a (decide s st a) (decide-other s st a) cc
never-unopened s st (find a r) q e = find-other s st a (checks s a) (checks-other s a) cc
never-unopened s st (read n x r y) q e = read-other x (name_of s st n) cc
never-unopened s st (count k r) q e = count-other (leb kinds k) (length (st.part k).names) cc
