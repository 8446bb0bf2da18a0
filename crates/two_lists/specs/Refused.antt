-- What refuses each call of a list, of the calls and answers alone. Only refusal 9 is left open: it depends on the pages. Assumes nothing.
use Rattle.std.specs.Prelude.{ℕ, ◌≤◌, ◌<◌, ◌≡◌, ◌⊎◌, List, length}
use Rattle.std.proofs.Math.Option.{Option, none, some}
use Rattle.slices.specs.Bytes.{Bytes}
use Rattle.refusals.specs.declared.Refusal.{Refusal}
use Rattle.refusals.specs.declared.Refusal.TheVariants.{BadKind, ListFull, NoPage, NoBlock, ShortBuffer}
use Rattle.layout.specs.Sizes.{kinds}
use Rattle.model.specs.Names.{Name, size}
use Rattle.model.specs.Answers.{AddAnswer, FindAnswer, ReadAnswer, CountAnswer}
use Rattle.model.specs.Calls.{Event, add, find, read, count, effects, At, Accepted, Before, Given, Issued, fresh_kinds, how_many}

-- What an add answers that finds its pages, by what the block rule gives: 10 if that is no number.
abbrev pub by_rule : Option ℕ → AddAnswer
by_rule none = AddAnswer.refused NoBlock
by_rule (some n) = AddAnswer.fresh n

-- No number was given to the name by then.
abbrev pub NotGiven : Before → Name → List Event → Type 0
NotGiven o a xs = (n : ℕ) → ¬ Given o a n (effects xs)

-- How many names of the kind k there were by then.
abbrev pub counted_by : Before → ℕ → List Event → ℕ
counted_by o k xs = how_many (o.count k) k (fresh_kinds (effects xs))

-- e is the list length E; `illegal` gives a name's refusal by 4 to 7, if it has one; o has the block rule and what there was before the list es.
pub record Refusals (e : ℕ) (illegal : Name → Option Refusal) (o : Before) (es : List Event) : Type 0 where
  -- An add refuses an illegal name.
  pub add-illegal : (xs : List Event) (a : Name) (r : AddAnswer) (why : Refusal) → At (add a r) xs es → illegal a ≡ some why → r ≡ AddAnswer.refused why
  -- Then known is said of each name that was given a number,
  pub add-known : (xs : List Event) (a : Name) (r : AddAnswer) (n : ℕ) → At (add a r) xs es → illegal a ≡ none → Given o a n (effects xs) → r ≡ AddAnswer.known n
  -- and any other name is refused by 8 if there are E names of its kind.
  pub add-full : (xs : List Event) (a : Name) (r : AddAnswer) → At (add a r) xs es → illegal a ≡ none → NotGiven o a xs
      → e ≤ counted_by o a.kind xs → r ≡ AddAnswer.refused ListFull
  -- Else it is refused by 9, or the block rule decides.
  pub add-room : (xs : List Event) (a : Name) (r : AddAnswer) → At (add a r) xs es → illegal a ≡ none → NotGiven o a xs
      → counted_by o a.kind xs < e → (r ≡ AddAnswer.refused NoPage) ⊎ (r ≡ by_rule (o.rule (fresh_kinds (effects xs)) a.kind))
  -- A find refuses an illegal name and no other.
  pub find-illegal : (xs : List Event) (a : Name) (r : FindAnswer) (why : Refusal) → At (find a r) xs es → illegal a ≡ some why → r ≡ FindAnswer.refused why
  pub find-legal : (xs : List Event) (a : Name) (r : FindAnswer) → At (find a r) xs es → illegal a ≡ none → Accepted r
  -- A read refuses a buffer that is shorter than the name that had the number by then.
  pub read_short : (xs : List Event) (n : ℕ) (x y : Bytes) (r : ReadAnswer) (a : Name) → At (read n x r y) xs es
      → Issued o a n (effects xs) → length x < size a → (r ≡ ReadAnswer.refused ShortBuffer) × (y ≡ x)
  -- A count refuses what is no kind.
  pub count-kind : (xs : List Event) (k : ℕ) (r : CountAnswer) → At (count k r) xs es → kinds ≤ k → r ≡ CountAnswer.refused BadKind

-- The call is an add that was refused by 9.
abbrev pub HasNoPage : Event → Type 0
HasNoPage e = (a : Name) × (e ≡ add a (AddAnswer.refused NoPage))
