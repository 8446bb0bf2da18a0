-- Lists of calls over any memory: what the theorem needs of each call. Assumes nothing.
use Rattle.std.specs.Prelude.{◌≡◌, List, [], ◌∷◌}
use Rattle.refusals.specs.declared.Refusal.{Refusal}
use Rattle.layout.specs.declared.Sizes.{Sizes}
use Rattle.model.specs.Answers.{AddAnswer, FindAnswer, ReadAnswer, CountAnswer}
use Rattle.model.specs.State.{State}
use Rattle.model.specs.Steps.{add_answer, after_add, find_answer, read_answer, read_buffer, count_answer}
use Rattle.model.specs.Calls.{Event, add, find, read, count}

-- A call answers as the state says.
abbrev pub RightAnswer : Sizes → State → Event → Type 0
RightAnswer s st (add a r) = r ≡ add_answer s st a
RightAnswer s st (find a r) = r ≡ find_answer s st a
RightAnswer s st (read n x r y) = (r ≡ read_answer s st n x) × (y ≡ read_buffer s st n x)
RightAnswer s st (count k r) = r ≡ count_answer st k

-- A call was refused for this reason.
abbrev pub RefusedFor : Refusal → Event → Type 0
RefusedFor why (add a r) = r ≡ AddAnswer.refused why
RefusedFor why (find a r) = r ≡ FindAnswer.refused why
RefusedFor why (read n x r y) = r ≡ ReadAnswer.refused why
RefusedFor why (count k r) = r ≡ CountAnswer.refused why

-- The state after a call.
abbrev pub after_call : Sizes → State → Event → State
after_call s st (add a r) = after_add s st a
after_call s st (find a r) = st
after_call s st (read n x r y) = st
after_call s st (count k r) = st

-- `Stands st m`: the memory m holds a dictionary of the sizes s in this state.
module _ (Mem : Type 0) (s : Sizes) (Stands : State → Mem → Type 0) where
  -- One call: the memory before, the call with its answer, the memory after.
  abbrev pub Step : Mem → Event → Mem → Type 0
  Step m e m' = (st : State) → Stands st m → RightAnswer s st e × Stands (after_call s st e) m'

  -- The calls of the list begin with the memory m and leave the memory z.
  abbrev pub Runs : Mem → List Event → Mem → Type 0
  Runs m [] z = z ≡ m
  Runs m (e ∷ es) z = (y : Mem) × Runs m es y × Step y e z
