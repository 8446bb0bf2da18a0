-- Demand 3: of every list of calls, from any good state, and from a freshly opened dictionary. Assumes nothing.
use Prim.Native.Nat.{ℕ, ◌≤◌, ◌<◌}
use mathlib.Core.Path.{◌≡◌, refl, sym, ap, ◌∙◌}
use mathlib.Core.Logic.{◌↔◌, inl, inr, ⊎_map}
use mathlib.Core.List.{List, [], ◌∷◌, ◌++◌}
use mathlib.Core.Option.{Option, none, some}
use borrow.Author.Tests.{lt-leb, le-leb}
use lib.ListN.{length, drop}
use Rattle.slices.specs.Bytes.{Bytes}
use Rattle.refusals.specs.declared.Refusal.{Refusal}
use Rattle.layout.specs.declared.Sizes.{Sizes}
use Rattle.layout.specs.Sizes.{InRange, kinds}
use Rattle.blocks.specs.Blocks.{blocks_after}
use Rattle.blocks.proofs.Rule.{rule-steps}
use Rattle.model.specs.Names.{Name, size}
use Rattle.model.specs.Answers.{AddAnswer, FindAnswer, ReadAnswer, CountAnswer}
use Rattle.model.specs.State.{State, opened, number_of, name_of}
use Rattle.model.specs.Steps.{checks, add_answer, find_by, find_checked, find_answer, read_answer, read_buffer, count_answer}
use Rattle.model.specs.Good.{Good}
use Rattle.model.specs.Calls.{Event, add, find, read, count, Effect, fresh, known, no-effect, effect, effects, At, Gave, Accepted, Before, nothing, steps_rule, before_of, Given, Issued, fresh_names, fresh_kinds, how_many, Demand3}
use Rattle.model.specs.Runs.{RightAnswer, after_call, Runs}
use Rattle.model.specs.Order.{ordered}
use Rattle.model.proofs.Numbers.{read_back, number-back}
use Rattle.model.proofs.Good.{opened-good, add-good}
use Rattle.model.proofs.Order.{order-by}
use Rattle.model.proofs.Effects.{did, keeps, given_by, issued-by, blocks-by, count_by}

-- ---- a list whose answers are those of the states

-- The state after a list of events.
abbrev pub state_of : Sizes → State → List Event → State
state_of s st [] = st
state_of s st (e ∷ es) = after_call s (state_of s st es) e

abbrev pub Model : Sizes → State → List Event → Type 0
Model s st [] = Unit {0}
Model s st (e ∷ es) = RightAnswer s (state_of s st es) e × Model s st es

module _ (Mem : Type 0) (s : Sizes) (Stands : State → Mem → Type 0) (st : State) (m : Mem) (begin : Stands st m) where
  pub model : (es : List Event) (z : Mem) → Runs Mem s Stands m es z → Model s st es × Stands (state_of s st es) z
  model [] z r = (tt, rw r begin)
  model (e ∷ es) z r =
      let h : Model s st es × Stands (state_of s st es) r.0 = model es r.0 r.1 in
      let k : RightAnswer s (state_of s st es) e × Stands (after_call s (state_of s st es) e) z = r.2 (state_of s st es) h.1 in
      ((k.0, h.0), k.1)

-- ---- the events and the state they lead to

-- What was before the list is what the state has.
pub record Starts (s : Sizes) (st : State) (o : Before) : Type 0 where
  pub given : (a : Name) (n : ℕ) → o.given a n → number_of s st a ≡ some n
  pub had : (a : Name) (n : ℕ) → number_of s st a ≡ some n → o.given a n
  pub count : (k : ℕ) → length (st.part k).names ≡ o.count k
  pub rule : (ks : List ℕ) (k : ℕ) → o.rule ks k ≡ steps_rule s st ks k

pub issued-given : (o : Before) (a : Name) (n : ℕ) (es : List Effect) → Issued o a n es → Given o a n es
issued-given o a n [] i = i
issued-given o a n (fresh b m ∷ es) i = ⊎_map (λ u. u) (issued-given o a n es) i
issued-given o a n (known b m ∷ es) i = inr (issued-given o a n es i)
issued-given o a n (no-effect ∷ es) i = issued-given o a n es i

-- What an add gave is what its name was given.
gave-given : (o : Before) (a : Name) (r : AddAnswer) (n : ℕ) (xs : List Event) → Gave r n → Given o a n (effects (add a r ∷ xs))
gave-given o a r n xs (inl e) = rw e (inl (refl, refl))
gave-given o a r n xs (inr e) = rw e (inl (refl, refl))

module _ (s : Sizes) (st : State) (G : Good s st) (o : Before) (S : Starts s st o) where
  abbrev now : List Event → State
  now es = state_of s st es

  pub good : (es : List Event) → Good s (now es)
  good [] = G
  good (add a r ∷ es) = add-good s (now es) a (good es)
  good (find a r ∷ es) = good es
  good (read n x r y ∷ es) = good es
  good (count k r ∷ es) = good es

  -- What a name was given is its number,
  pub given : (a : Name) (n : ℕ) (es : List Event) → Model s st es → Given o a n (effects es) → number_of s (now es) a ≡ some n
  given a n [] h i = S.given a n i
  given a n (e ∷ es) h i = given_by s (now es) (good es) o _ (effects es) (effect e) (did s (now es) e h.0) a n (given a n es h.1) i

  -- and a name's number was issued to it.
  issued : (a : Name) (n : ℕ) (es : List Event) → Model s st es → number_of s (now es) a ≡ some n → Issued o a n (effects es)
  issued a n [] h i = S.had a n i
  issued a n (e ∷ es) h i = issued-by s (now es) (good es) o _ (effects es) (effect e) (did s (now es) e h.0) a n (issued a n es h.1) i

  pub had-given : (a : Name) (n : ℕ) (es : List Event) → Model s st es → number_of s (now es) a ≡ some n → Given o a n (effects es)
  had-given a n es h i = issued-given o a n (effects es) (issued a n es h i)

  pub blocks : (es : List Event) → Model s st es → (now es).blocks ≡ blocks_after s st.blocks (fresh_kinds (effects es))
  blocks [] h = refl
  blocks (e ∷ es) h = blocks-by s (now es) _ (effects es) (effect e) (did s (now es) e h.0) st.blocks (blocks es h.1)

  pub counted : (k : ℕ) (es : List Event) → Model s st es → length ((now es).part k).names ≡ how_many (o.count k) k (fresh_kinds (effects es))
  counted k [] h = S.count k
  counted k (e ∷ es) h = count_by s (now es) _ (effects es) (effect e) (did s (now es) e h.0) k (o.count k) (counted k es h.1)

  in-front : (es : List Event) → Model s st es → ordered (now es) ≡ fresh_names (ordered st) (effects es)
  in-front [] h = refl
  in-front (e ∷ es) h = order-by s (now es) _ (good es) (effects es) (effect e) (did s (now es) e h.0) (ordered st) (in-front es h.1)

  -- At each place the answer is that of the state before it.
  pub at : (e : Event) (xs es : List Event) → Model s st es → At e xs es → RightAnswer s (now xs) e × Model s st xs
  at e xs [] h c = absurd c
  at e xs (x ∷ es) h (inl c) = rw (c.0, c.1) h
  at e xs (x ∷ es) h (inr c) = at e xs es h.1 c

  -- ---- the sentences

  module _ (es : List Event) (h : Model s st es) where
    same : (xs : List Event) (a b : Name) (r : AddAnswer) (m n : ℕ) → At (add a r) xs es → Gave r m → Given o b n (effects xs) → (m ≡ n) ↔ (a ≡ b)
    same xs a b r m n c g f =
        let t : (r ≡ add_answer s (now xs) a) × Model s st xs = at (add a r) xs es h c in
        let ys : List Event = add a r ∷ xs in
        let p : number_of s (now ys) a ≡ some m = given a m ys t (gave-given o a r m xs g) in
        let q : number_of s (now ys) b ≡ some n = keeps s (now xs) (good xs) a b n (given b n xs t.1 f) in
        let u : name_of s (now ys) m ≡ some a = read_back s (now ys) (good ys) a m p in
        let v : name_of s (now ys) n ≡ some b = read_back s (now ys) (good ys) b n q in
        (λ e. cc, λ e. cc)

    first : (xs : List Event) (a : Name) (r : AddAnswer) (n : ℕ) → At (add a r) xs es → Gave r n → ((m : ℕ) → ¬ Given o a m (effects xs)) → r ≡ AddAnswer.fresh n
    first xs a r n c (inl e) g = e
    first xs a r n c (inr e) g =
        let t : (r ≡ add_answer s (now xs) a) × Model s st xs = at (add a r) xs es h c in
        absurd (g n (had-given a n xs t.1 (did s (now xs) (add a (AddAnswer.known n)) (sym e ∙ t.0)).0))

    later : (xs : List Event) (a : Name) (r : AddAnswer) (n m : ℕ) → At (add a r) xs es → Gave r n → Given o a m (effects xs) → r ≡ AddAnswer.known m
    later xs a r n m c (inl e) g =
        let t : (r ≡ add_answer s (now xs) a) × Model s st xs = at (add a r) xs es h c in
        let p : number_of s (now xs) a ≡ some m = given a m xs t.1 g in
        let q : number_of s (now xs) a ≡ none = (did s (now xs) (add a (AddAnswer.fresh n)) (sym e ∙ t.0)).1.new in cc
    later xs a r n m c (inr e) g =
        let t : (r ≡ add_answer s (now xs) a) × Model s st xs = at (add a r) xs es h c in
        let p : number_of s (now xs) a ≡ some m = given a m xs t.1 g in
        let q : number_of s (now xs) a ≡ some n = (did s (now xs) (add a (AddAnswer.known n)) (sym e ∙ t.0)).0 in
        let z : n ≡ m = cc in
        e ∙ ap AddAnswer.known z

    -- A find that is not refused looks the name up.
    looks : (xs : List Event) (a : Name) (r : FindAnswer) → r ≡ find_answer s (now xs) a → Accepted r
        → r ≡ find_by (number_of s (now xs) a)
    looks xs a r e ok = go (checks s a) e
      where
        go : (c : Option Refusal) → r ≡ find_checked s (now xs) a c → r ≡ find_by (number_of s (now xs) a)
        go (some k) e = absurd (ok k e)
        go none e = e

    find-after : (xs : List Event) (a : Name) (r : FindAnswer) (n : ℕ) → At (find a r) xs es → Accepted r
        → Given o a n (effects xs) → r ≡ FindAnswer.known n
    find-after xs a r n c ok g =
        let t : (r ≡ find_answer s (now xs) a) × Model s st xs = at (find a r) xs es h c in
        looks xs a r t.0 ok ∙ rw (given a n xs t.1 g)

    find-before : (xs : List Event) (a : Name) (r : FindAnswer) → At (find a r) xs es → Accepted r
        → ((n : ℕ) → ¬ Given o a n (effects xs)) → r ≡ FindAnswer.absent
    find-before xs a r c ok g = looks xs a r (at (find a r) xs es h c).0 ok ∙ go (number_of s (now xs) a) refl
      where
        go : (i : Option ℕ) → number_of s (now xs) a ≡ i → find_by i ≡ FindAnswer.absent
        go none e = refl
        go (some n) e = absurd (g n (had-given a n xs (at (find a r) xs es h c).1 e))

    in_order : (xs : List Event) (a : Name) (n : ℕ) → At (add a (AddAnswer.fresh n)) xs es → o.rule (fresh_kinds (effects xs)) a.kind ≡ some n
    in_order xs a n c =
        let t : (AddAnswer.fresh n ≡ add_answer s (now xs) a) × Model s st xs = at (add a (AddAnswer.fresh n)) xs es h c in
        let d = did s (now xs) (add a (AddAnswer.fresh n)) t.0 in
        S.rule (fresh_kinds (effects xs)) a.kind ∙ rw (← blocks xs t.1, d.1.block) (ap some d.2)

    counts : (xs : List Event) (k : ℕ) (r : CountAnswer) → At (count k r) xs es → k < kinds → r ≡ CountAnswer.count (how_many (o.count k) k (fresh_kinds (effects xs)))
    counts xs k r c l =
        let t : (r ≡ count_answer (now xs) k) × Model s st xs = at (count k r) xs es h c in
        t.0 ∙ rw (lt-leb kinds k l) (ap CountAnswer.count (counted k xs t.1))

    read_name : (xs : List Event) (n : ℕ) (x y : Bytes) (r : ReadAnswer) (a : Name) → At (read n x r y) xs es
        → Issued o a n (effects xs) → size a ≤ length x
        → (r ≡ ReadAnswer.name a.kind (length a.first) (length a.second)) × (y ≡ a.first ++ a.second ++ drop (size a) x)
    read_name xs n x y r a c i l =
        let t : ((r ≡ read_answer s (now xs) n x) × (y ≡ read_buffer s (now xs) n x)) × Model s st xs = at (read n x r y) xs es h c in
        let q : name_of s (now xs) n ≡ some a = read_back s (now xs) (good xs) a n (given a n xs t.1 (issued-given o a n (effects xs) i)) in
        (t.0.0 ∙ rw (q, le-leb (size a) (length x) l), t.0.1 ∙ rw (q, le-leb (size a) (length x) l))

    read_none : (xs : List Event) (n : ℕ) (x y : Bytes) (r : ReadAnswer) → At (read n x r y) xs es
        → ((a : Name) → ¬ Issued o a n (effects xs)) → (r ≡ ReadAnswer.absent) × (y ≡ x)
    read_none xs n x y r c g =
        let t : ((r ≡ read_answer s (now xs) n x) × (y ≡ read_buffer s (now xs) n x)) × Model s st xs = at (read n x r y) xs es h c in
        let q : name_of s (now xs) n ≡ none = go t.1 (name_of s (now xs) n) refl in
        (t.0.0 ∙ rw q, t.0.1 ∙ rw q)
      where
        go : Model s st xs → (i : Option Name) → name_of s (now xs) n ≡ i → i ≡ none
        go k none e = refl
        go k (some a) e = absurd (g a (issued a n xs k (number-back s (now xs) (good xs) a n e)))

    holds : Demand3 o es
    holds = record {
      same = same;
      first = first;
      later = later;
      find-after = find-after;
      find-before = find-before;
      in_order = in_order;
      counts = counts;
      read_name = read_name;
      read_none = read_none;
    }

-- ---- demand 3

pub opened-starts : (s : Sizes) → Starts s opened (nothing s)
unfolding number_of
opened-starts s = record {
  given = λ a n e. absurd e;
  had = λ a n e. cc;
  count = λ k. refl;
  rule = λ ks k. rule-steps s ks k;
}

opened-empty : ordered opened ≡ []
unfolding ordered
opened-empty = refl

state-starts : (s : Sizes) (st : State) → Starts s st (before_of s st)
state-starts s st = record { given = λ a n e. e; had = λ a n e. e; count = λ k. refl; rule = λ ks k. refl }

module _ (Mem : Type 0) (s : Sizes) (Stands : State → Mem → Type 0) (m z : Mem) (es : List Event) (runs : Runs Mem s Stands m es z) where
  -- From any good state, its names counted as given before the list.
  pub lists-from : (st : State) → Good s st → Stands st m → Demand3 (before_of s st) es
  lists-from st G h = holds s st G (before_of s st) (state-starts s st) es (model Mem s Stands st m h es z runs).0

  -- From a freshly opened dictionary.
  module _ (R : InRange s) (h : Stands opened m) where
    pub demand-3 : Demand3 (nothing s) es
    demand-3 = holds s opened (opened-good s R) (nothing s) (opened-starts s) es (model Mem s Stands opened m h es z runs).0

    -- The memory then stands for all fresh names in the order of their adds, across the kinds.
    pub stands-for : (st : State) × Stands st z × Good s st × (ordered st ≡ fresh_names [] (effects es))
    stands-for =
        let G : Good s opened = opened-good s R in
        let k = model Mem s Stands opened m h es z runs in (
          state_of s opened es,
          k.1,
          good s opened G (nothing s) (opened-starts s) es,
          in-front s opened G (nothing s) (opened-starts s) es k.0 ∙ ap (λ (ns : List Name). fresh_names ns (effects es)) opened-empty,
        )
