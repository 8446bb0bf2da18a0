-- Lists of calls with their answers, newest first, and the claim of demand 3 about them. Assumes nothing.
use Rattle.std.specs.Prelude.{ℕ, zero, suc, ◌≤◌, ◌<◌, cond, ◌≡◌, ◌↔◌, ◌⊎◌, List, [], ◌∷◌, ◌++◌, map, ◌+◌, eqb, length, drop}
use Rattle.std.proofs.Math.Option.{Option, some}
use Rattle.slices.specs.Bytes.{Bytes}
use Rattle.refusals.specs.declared.Refusal.{Refusal}
use Rattle.layout.specs.declared.Sizes.{Sizes}
use Rattle.layout.specs.Sizes.{kinds}
use Rattle.blocks.specs.Rule.{block_rule}
use Rattle.blocks.specs.Blocks.{pick, blocks_after, number_picked}
use Rattle.model.specs.Names.{Name}
use Rattle.model.specs.Answers.{AddAnswer, FindAnswer, ReadAnswer, CountAnswer}
use Rattle.model.specs.State.{State, number_of}

-- A call and its answer. A read has its number, the buffer before, the answer, the buffer after.
pub data Event : Type 0 where
  add : Name → AddAnswer → Event
  find : Name → FindAnswer → Event
  read : ℕ → Bytes → ReadAnswer → Bytes → Event
  count : ℕ → CountAnswer → Event

-- ---- what a call did to the names

-- It gave a name its number, as a fresh name or as a known one, or nothing happened to the names.
pub data Effect : Type 0 where
  fresh : Name → ℕ → Effect
  known : Name → ℕ → Effect
  no-effect : Effect

abbrev pub effect : Event → Effect
effect (add a (AddAnswer.refused why)) = no-effect
effect (add a (AddAnswer.fresh n)) = fresh a n
effect (add a (AddAnswer.known n)) = known a n
effect (find a r) = no-effect
effect (read n x r y) = no-effect
effect (count k r) = no-effect

abbrev pub effects : List Event → List Effect
effects es = map effect es

-- ---- what is read off a list of calls

-- e is in the list es, and those before it are xs.
abbrev pub At : {E : Type 0} → E → List E → List E → Type 0
At e xs [] = ⊥
At e xs (x ∷ es) = ((e ≡ x) × (xs ≡ es)) ⊎ At e xs es

-- The answer is fresh or known with the number n.
abbrev pub Gave : AddAnswer → ℕ → Type 0
Gave r n = (r ≡ AddAnswer.fresh n) ⊎ (r ≡ AddAnswer.known n)

-- A find that is not refused is accepted.
abbrev pub Accepted : FindAnswer → Type 0
Accepted r = (why : Refusal) → ¬ (r ≡ FindAnswer.refused why)

-- What there was before the list. `given`: the names with their numbers. `count`: how many names each kind had. `rule`: the number that a fresh name of a
-- kind gets after fresh names of these kinds, newest first.
pub record Before : Type 1 where
  pub given : Name → ℕ → Type 0
  pub count : ℕ → ℕ
  pub rule : List ℕ → ℕ → Option ℕ

-- For a list that starts from a freshly opened dictionary: there was nothing before it, and document 01's block rule gives the numbers.
abbrev pub nothing : Sizes → Before
nothing s = record { given = λ a n. ⊥; count = λ k. zero; rule = block_rule s }

-- The number that the steps of the block rule give a fresh name of the kind k, from the state's blocks and after fresh names of these kinds, newest first.
abbrev pub steps_rule : Sizes → State → List ℕ → ℕ → Option ℕ
steps_rule s st ks k = number_picked s.w (blocks_after s st.blocks ks) k (pick s (blocks_after s st.blocks ks) k)

-- For a list that starts from a state: what the state has was there before it.
abbrev pub before_of : Sizes → State → Before
before_of s st = record { given = λ a n. number_of s st a ≡ some n; count = λ k. length (st.part k).names; rule = steps_rule s st }

-- The name a was given the number n in the list or before it.
abbrev pub Given : Before → Name → ℕ → List Effect → Type 0
Given o a n [] = o.given a n
Given o a n (fresh b m ∷ es) = ((a ≡ b) × (n ≡ m)) ⊎ Given o a n es
Given o a n (known b m ∷ es) = ((a ≡ b) × (n ≡ m)) ⊎ Given o a n es
Given o a n (no-effect ∷ es) = Given o a n es

-- It was given n as a fresh name in the list, or before it.
abbrev pub Issued : Before → Name → ℕ → List Effect → Type 0
Issued o a n [] = o.given a n
Issued o a n (fresh b m ∷ es) = ((a ≡ b) × (n ≡ m)) ⊎ Issued o a n es
Issued o a n (known b m ∷ es) = Issued o a n es
Issued o a n (no-effect ∷ es) = Issued o a n es

-- The fresh names, newest first, put in front of the names ns.
abbrev pub fresh_names : List Name → List Effect → List Name
fresh_names ns [] = ns
fresh_names ns (fresh a n ∷ es) = a ∷ fresh_names ns es
fresh_names ns (known a n ∷ es) = fresh_names ns es
fresh_names ns (no-effect ∷ es) = fresh_names ns es

-- The kinds of the fresh names, newest first.
abbrev pub fresh_kinds : List Effect → List ℕ
fresh_kinds es = map (λ (a : Name). a.kind) (fresh_names [] es)

-- c plus how often k is in the list.
abbrev pub how_many : ℕ → ℕ → List ℕ → ℕ
how_many c k [] = c
how_many c k (j ∷ ks) = cond (eqb k j) (suc (how_many c k ks)) (how_many c k ks)

-- ---- demand 3, of the events alone

pub record Demand3 (o : Before) (es : List Event) : Type 0 where
  -- Two adds that were given numbers, one before the other, got the same number exactly when kind and both parts are equal.
  pub same : (xs : List Event) (a b : Name) (r : AddAnswer) (m n : ℕ) → At (add a r) xs es → Gave r m → Given o b n (effects xs) → (m ≡ n) ↔ (a ≡ b)
  -- A name's first such add said fresh,
  pub first : (xs : List Event) (a : Name) (r : AddAnswer) (n : ℕ) → At (add a r) xs es → Gave r n → ((m : ℕ) → ¬ Given o a m (effects xs)) → r ≡ AddAnswer.fresh n
  -- later ones known;
  pub later : (xs : List Event) (a : Name) (r : AddAnswer) (n m : ℕ) → At (add a r) xs es → Gave r n → Given o a m (effects xs) → r ≡ AddAnswer.known m
  -- an accepted find gave that number after it,
  pub find-after : (xs : List Event) (a : Name) (r : FindAnswer) (n : ℕ) → At (find a r) xs es → Accepted r → Given o a n (effects xs) → r ≡ FindAnswer.known n
  -- and none before it or without one.
  pub find-before : (xs : List Event) (a : Name) (r : FindAnswer) → At (find a r) xs es → Accepted r → ((n : ℕ) → ¬ Given o a n (effects xs)) → r ≡ FindAnswer.absent
  -- The n-th fresh name of a kind has the number that the block rule gives from the kinds of the fresh names, in order.
  pub in_order : (xs : List Event) (a : Name) (n : ℕ) → At (add a (AddAnswer.fresh n)) xs es → o.rule (fresh_kinds (effects xs)) a.kind ≡ some n
  -- A count of a kind gives how many adds of the kind had said fresh by then.
  pub counts : (xs : List Event) (k : ℕ) (r : CountAnswer) → At (count k r) xs es → k < kinds → r ≡ CountAnswer.count (how_many (o.count k) k (fresh_kinds (effects xs)))
  -- A read gives exactly its name for each number issued by then, if the buffer is long enough,
  pub read_name : (xs : List Event) (n : ℕ) (x y : Bytes) (r : ReadAnswer) (a : Name) → At (read n x r y) xs es
      → Issued o a n (effects xs) → length a.first + length a.second ≤ length x
      → (r ≡ ReadAnswer.name a.kind (length a.first) (length a.second)) × (y ≡ a.first ++ a.second ++ drop (length a.first + length a.second) x)
  -- and none for every other number.
  pub read_none : (xs : List Event) (n : ℕ) (x y : Bytes) (r : ReadAnswer) → At (read n x r y) xs es
      → ((a : Name) → ¬ Issued o a n (effects xs)) → (r ≡ ReadAnswer.absent) × (y ≡ x)
