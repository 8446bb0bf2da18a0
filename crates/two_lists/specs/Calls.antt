-- Two lists of the same calls, newest first: what their answers have in common where the same adds are refused. Assumes nothing.
use Rattle.std.specs.Prelude.{ℕ, ◌≤◌, ◌<◌, ◌≡◌, ◌↔◌, ◌⊎◌, List, [], ◌∷◌, map, length}
use Rattle.slices.specs.Bytes.{Bytes}
use Rattle.refusals.specs.declared.Refusal.{Refusal}
use Rattle.layout.specs.Sizes.{kinds}
use Rattle.model.specs.Names.{Name, size}
use Rattle.model.specs.Answers.{AddAnswer, FindAnswer, ReadAnswer, CountAnswer}
use Rattle.model.specs.Calls.{Event, effects, Gave, Accepted, Before, Issued}

-- What a call asks. A read brings its buffer.
pub data Call : Type 0 where
  add : Name → Call
  find : Name → Call
  read : ℕ → Bytes → Call
  count : ℕ → Call

abbrev pub call_of : Event → Call
call_of (Event.add a r) = add a
call_of (Event.find a r) = find a
call_of (Event.read n x r y) = read n x
call_of (Event.count k r) = count k

abbrev pub SameCalls : List Event → List Event → Type 0
SameCalls es fs = map call_of es ≡ map call_of fs

-- e is in es and f is in fs at the same place; those before them are xs and ys.
abbrev pub AtBoth : Event → Event → List Event → List Event → List Event → List Event → Type 0
AtBoth e f xs ys [] fs = ⊥
AtBoth e f xs ys (x ∷ es) [] = ⊥
AtBoth e f xs ys (x ∷ es) (y ∷ fs) = ((e ≡ x) × (f ≡ y) × (xs ≡ es) × (ys ≡ fs)) ⊎ AtBoth e f xs ys es fs

abbrev pub IsRefused : AddAnswer → Type 0
IsRefused r = (why : Refusal) × (r ≡ AddAnswer.refused why)

-- Their adds are refused at the same places, for whatever reason.
abbrev pub RefusedAlike : List Event → List Event → Type 0
RefusedAlike es fs = (a b : Name) (r q : AddAnswer) (xs ys : List Event) → AtBoth (Event.add a r) (Event.add b q) xs ys es fs → IsRefused r ↔ IsRefused q

-- What was there before the list can be looked up, by name and by number.
pub record LookedUp (o : Before) : Type 0 where
  pub number : (a : Name) → ((n : ℕ) × o.given a n) ⊎ ((n : ℕ) → ¬ o.given a n)
  pub name : (n : ℕ) → ((a : Name) × o.given a n) ⊎ ((a : Name) → ¬ o.given a n)

-- The same call at the same place of both lists got the same word and number,
pub record SameAnswers (o : Before) (es fs : List Event) : Type 0 where
  -- if it is an add that was given a number in both,
  pub adds : (a : Name) (r q : AddAnswer) (m n : ℕ) (xs ys : List Event) → AtBoth (Event.add a r) (Event.add a q) xs ys es fs → Gave r m → Gave q n → r ≡ q
  -- a find that was accepted in both,
  pub finds : (a : Name) (r q : FindAnswer) (xs ys : List Event) → AtBoth (Event.find a r) (Event.find a q) xs ys es fs → Accepted r → Accepted q → r ≡ q
  -- a read whose buffer is long enough for the name that had the number by then, if one had it,
  pub reads : (n : ℕ) (x y z : Bytes) (r q : ReadAnswer) (xs ys : List Event) → AtBoth (Event.read n x r y) (Event.read n x q z) xs ys es fs
      → ((a : Name) → Issued o a n (effects xs) → size a ≤ length x) → (r ≡ q) × (y ≡ z)
  -- or a count of a kind.
  pub counts : (k : ℕ) (r q : CountAnswer) (xs ys : List Event) → AtBoth (Event.count k r) (Event.count k q) xs ys es fs → k < kinds → r ≡ q
