-- What refuses each call of a list: from any good state without more heads than names, and from a freshly opened dictionary. Assumes nothing.
use Prim.Native.Nat.{ℕ, suc, ◌≤◌, ◌<◌}
use mathlib.Core.Path.{◌≡◌, refl, sym, ap, ◌∙◌}
use mathlib.Core.Logic.{◌⊎◌, inl, inr}
use mathlib.Core.Bool.{Bool, true, false, ◌&&◌, cond}
use mathlib.Core.List.{List, [], ◌∷◌}
use mathlib.Core.Option.{Option, none, some}
use native.Mathlib.Omega.{arith}
use native.Mathlib.Decide.{ℕ_discrete}
use borrow.Author.Tests.{lt-leb, le-leb, eq-eqb, ne_eqb}
use lib.Dec.{ltb}
use lib.ListN.{length}
use Rattle.slices.specs.Bytes.{Bytes}
use Rattle.slices.proofs.Tests.{Split, split}
use Rattle.refusals.specs.declared.Refusal.TheVariants.{ListFull, NoPage, ShortBuffer}
use Rattle.layout.specs.declared.Sizes.{Sizes}
use Rattle.layout.specs.Sizes.{InRange, kinds}
use Rattle.bytes_buffer.specs.Pages.{all_pages}
use Rattle.blocks.specs.Blocks.{pick, number_picked}
use Rattle.model.specs.Names.{Name, size}
use Rattle.model.specs.Answers.{AddAnswer, FindAnswer, ReadAnswer}
use Rattle.model.specs.State.{State, opened, number_of, name_of}
use Rattle.model.specs.Steps.{checks, new_head, space_after, room, Decision, refuse, found, enter, decide, extended, answer_by, find_by, find_answer, read_answer, read_buffer}
use Rattle.model.specs.Good.{Good}
use Rattle.model.specs.Calls.{Event, add, find, read, count, Effect, fresh, known, no-effect, effect, effects, At, Accepted, Before, nothing, Issued, fresh_kinds}
use Rattle.model.specs.Runs.{Runs}
use Rattle.model.proofs.Decide.{decided-illegal, decided-known, decided-refused, decided-block, decided-enter}
use Rattle.model.proofs.Numbers.{read_back}
use Rattle.model.proofs.Good.{opened-good}
use Rattle.model.proofs.Effects.{Did, did}
use Rattle.model.proofs.Lists.{state_of, Model, model, Starts, opened-starts, issued-given, good, given, had-given, blocks, counted, at}
use Rattle.two_lists.specs.Refused.{by_rule, NotGiven, counted_by, Refusals}

-- ---- no kind has more heads than names

abbrev FewHeads : State → Type 0
FewHeads st = (k : ℕ) → length (st.part k).heads ≤ length (st.part k).names

heads-by : (s : Sizes) (st z : State) (e : Effect) → Did s st e z → FewHeads st → FewHeads z
unfolding extended
heads-by s st z (fresh b m) d few k = rw d.3 (go (ℕ_discrete b.kind k))
  where
    grown : (c : Bool) (h : Bytes) (hs : List Bytes) (n : ℕ) → length hs ≤ n → length (cond c (h ∷ hs) hs) ≤ suc n
    grown true h hs n l = omega arith
    grown false h hs n l = omega arith

    go : Dec (b.kind ≡ k) → length ((extended s st b d.0).part k).heads ≤ length ((extended s st b d.0).part k).names
    go (yes p) = rw (eq-eqb b.kind k p) (grown (new_head b (st.part b.kind)) _ _ _ (few b.kind))
    go (no p) = rw (ne_eqb b.kind k p) (few k)
heads-by s st z (known b m) d few k = rw d.1 (few k)
heads-by s st z no-effect d few k = rw d (few k)

-- ---- room in the lists and in the pages

and-false : (b : Bool) → (b && false) ≡ false
and-false true = refl
and-false false = refl

room-full : (s : Sizes) (st : State) (a : Name) → s.e ≤ length (st.part a.kind).names → room s st a ≡ some ListFull
unfolding room
room-full s st a h = rw (le-leb s.e (length (st.part a.kind).names) h)

room-pages : (s : Sizes) (st : State) (a : Name) → FewHeads st → length (st.part a.kind).names < s.e
    → room s st a ≡ cond (ltb s.n (all_pages (space_after s st a))) (some NoPage) none
unfolding room
room-pages s st a few h =
    rw (
      lt-leb s.e (length (st.part a.kind).names) h,
      lt-leb s.e (length (st.part a.kind).heads) (omega (arith, few a.kind, h)),
      and-false (new_head a (st.part a.kind)),
    )

-- ---- the list

module _ (s : Sizes) (st : State) (G : Good s st) (few : FewHeads st) (o : Before) (S : Starts s st o) where
  abbrev now : List Event → State
  now es = state_of s st es

  few-heads : (es : List Event) → Model s st es → FewHeads (now es)
  few-heads [] h = few
  few-heads (e ∷ es) h = heads-by s (now es) _ (effect e) (did s (now es) e h.0) (few-heads es h.1)

  -- The rule gives what the state's blocks give.
  ruled : (xs : List Event) (k : ℕ) → Model s st xs
      → o.rule (fresh_kinds (effects xs)) k ≡ number_picked s.w (now xs).blocks k (pick s (now xs).blocks k)
  ruled xs k h = S.rule (fresh_kinds (effects xs)) k ∙ rw (← blocks s st G o S xs h)

  not-numbered : (xs : List Event) (a : Name) → Model s st xs → NotGiven o a xs → number_of s (now xs) a ≡ none
  not-numbered xs a h never = go (number_of s (now xs) a) refl
    where
      go : (i : Option ℕ) → number_of s (now xs) a ≡ i → i ≡ none
      go none e = refl
      go (some n) e = absurd (never n (had-given s st G o S a n xs h e))

  module _ (es : List Event) (h : Model s st es) where
    before : (e : Event) (xs : List Event) → At e xs es → Model s st xs
    before e xs c = (at s st G o S e xs es h c).1

    by-decision : (xs : List Event) (a : Name) (r : AddAnswer) (d : Decision) → At (add a r) xs es → decide s (now xs) a ≡ d → r ≡ answer_by s (now xs) a d
    by-decision xs a r d c e = (at s st G o S (add a r) xs es h c).0 ∙ ap (answer_by s (now xs) a) e

    add-full : (xs : List Event) (a : Name) (r : AddAnswer) → At (add a r) xs es → checks s a ≡ none → NotGiven o a xs
        → s.e ≤ counted_by o a.kind xs → r ≡ AddAnswer.refused ListFull
    add-full xs a r c i never l =
        let m : Model s st xs = before (add a r) xs c in
        by-decision xs a r (refuse ListFull) c
        (decided-refused s (now xs) a i (not-numbered xs a m never) ListFull (room-full s (now xs) a (omega (arith, l, counted s st G o S a.kind xs m))))

    add-room : (xs : List Event) (a : Name) (r : AddAnswer) → At (add a r) xs es → checks s a ≡ none → NotGiven o a xs
        → counted_by o a.kind xs < s.e → (r ≡ AddAnswer.refused NoPage) ⊎ (r ≡ by_rule (o.rule (fresh_kinds (effects xs)) a.kind))
    add-room xs a r c i never l = paged (split (ltb s.n (all_pages (space_after s (now xs) a))))
      where
        m : Model s st xs
        m = before (add a r) xs c

        new : number_of s (now xs) a ≡ none
        new = not-numbered xs a m never

        pages : room s (now xs) a ≡ cond (ltb s.n (all_pages (space_after s (now xs) a))) (some NoPage) none
        pages = room-pages s (now xs) a (few-heads xs m) (omega (arith, l, counted s st G o S a.kind xs m))

        picked : room s (now xs) a ≡ none → (p : Option ℕ) → pick s (now xs).blocks a.kind ≡ p
            → r ≡ by_rule (number_picked s.w (now xs).blocks a.kind p)
        picked roomy none e = by-decision xs a r _ c (decided-block s (now xs) a i new roomy e)
        picked roomy (some g) e = by-decision xs a r (enter g) c (decided-enter s (now xs) a i new roomy g e)

        paged : Split (ltb s.n (all_pages (space_after s (now xs) a)))
            → (r ≡ AddAnswer.refused NoPage) ⊎ (r ≡ by_rule (o.rule (fresh_kinds (effects xs)) a.kind))
        paged (inl p) = inl (by-decision xs a r (refuse NoPage) c (decided-refused s (now xs) a i new NoPage (pages ∙ rw p)))
        paged (inr p) = inr (picked (pages ∙ rw p) (pick s (now xs).blocks a.kind) refl ∙ ap by_rule (sym (ruled xs a.kind m)))

    find-legal : (xs : List Event) (a : Name) (r : FindAnswer) → At (find a r) xs es → checks s a ≡ none → Accepted r
    find-legal xs a r c i why e =
        let t : r ≡ find_answer s (now xs) a = (at s st G o S (find a r) xs es h c).0 in
        go (number_of s (now xs) a) (sym e ∙ t ∙ rw i)
      where
        go : (n : Option ℕ) → FindAnswer.refused why ≡ find_by n → ⊥
        go none q = cc
        go (some n) q = cc

    read_short : (xs : List Event) (n : ℕ) (x y : Bytes) (r : ReadAnswer) (a : Name) → At (read n x r y) xs es
        → Issued o a n (effects xs) → length x < size a → (r ≡ ReadAnswer.refused ShortBuffer) × (y ≡ x)
    read_short xs n x y r a c i l =
        let t : ((r ≡ read_answer s (now xs) n x) × (y ≡ read_buffer s (now xs) n x)) × Model s st xs = at s st G o S (read n x r y) xs es h c in
        let q : name_of s (now xs) n ≡ some a = read_back s (now xs) (good s st G o S xs) a n (given s st G o S a n xs t.1 (issued-given o a n (effects xs) i)) in
        (t.0.0 ∙ rw (q, lt-leb (size a) (length x) l), t.0.1 ∙ rw (q, lt-leb (size a) (length x) l))

    refusals-from : Refusals s.e (checks s) o es
    refusals-from = record {
      add-illegal = λ xs a r why c i. by-decision xs a r (refuse why) c (decided-illegal s (now xs) a why i);
      add-known = λ xs a r n c i g. by-decision xs a r (found n) c (decided-known s (now xs) a i n (given s st G o S a n xs (before (add a r) xs c) g));
      add-full = add-full;
      add-room = add-room;
      find-illegal = λ xs a r why c i. (at s st G o S (find a r) xs es h c).0 ∙ rw i;
      find-legal = find-legal;
      read_short = read_short;
      count-kind = λ xs k r c l. (at s st G o S (count k r) xs es h c).0 ∙ rw (le-leb kinds k l);
    }

-- From a freshly opened dictionary.
pub refusals-opened : (Mem : Type 0) (s : Sizes) (Stands : State → Mem → Type 0) (m z : Mem) (es : List Event) → Runs Mem s Stands m es z → InRange s → Stands opened m
    → Refusals s.e (checks s) (nothing s) es
refusals-opened Mem s Stands m z es runs R h =
    refusals-from s opened (opened-good s R) (λ k. omega arith) (nothing s) (opened-starts s) es (model Mem s Stands opened m h es z runs).0
