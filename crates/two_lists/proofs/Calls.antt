-- Answers are determined: two lists of the same calls whose adds are refused at the same places get the same answers. Assumes nothing.
use Prim.Native.Nat.{ℕ, ◌<◌, ◌≤◌}
use mathlib.Core.Path.{◌≡◌, refl, sym, ap, ◌∙◌}
use mathlib.Core.Logic.{◌↔◌, ◌⊎◌, inl, inr}
use mathlib.Core.List.{List, [], ◌∷◌, map}
use mathlib.Core.Option.{Option, none, some}
use native.Mathlib.Omega.{arith}
use borrow.Author.Tests.{eqb-true, eqb-false}
use lib.Dec.{eqb}
use lib.ListN.{length}
use Rattle.slices.specs.Bytes.{Bytes}
use Rattle.slices.proofs.Tests.{Split, split}
use Rattle.layout.specs.declared.Sizes.{Sizes}
use Rattle.layout.specs.Sizes.{kinds}
use Rattle.model.specs.Names.{Name, size}
use Rattle.model.specs.Answers.{AddAnswer, FindAnswer, ReadAnswer, CountAnswer}
use Rattle.model.specs.State.{State, number_of, name_of}
use Rattle.model.specs.Good.{Good}
use Rattle.model.specs.Calls.{Event, add, find, read, count, Effect, fresh, known, no-effect, effect, effects, At, Gave, Accepted, Before, nothing, before_of, Given, Issued, fresh_kinds, Demand3}
use Rattle.model.proofs.Numbers.{read_back, number-back}
use Rattle.two_lists.specs.Calls.{Call, call_of, SameCalls, AtBoth, IsRefused, RefusedAlike, LookedUp, SameAnswers}
use Rattle.two_lists.proofs.Stepwise.{older, given?}

-- ---- whether a number was issued

-- Some name or none, by whether the number was issued before or now.
now-or-before : (n m : ℕ) (b : Name) (I : Name → Type 0) → Split (eqb n m) → ((a : Name) × I a) ⊎ ((a : Name) → ¬ I a)
    → ((a : Name) × (((a ≡ b) × (n ≡ m)) ⊎ I a)) ⊎ ((a : Name) → ¬ (((a ≡ b) × (n ≡ m)) ⊎ I a))
now-or-before n m b I (inl p) d = inl (b, inl (refl, eqb-true n m p))
now-or-before n m b I (inr p) (inl i) = inl (i.0, inr i.1)
now-or-before n m b I (inr p) (inr never) = inr not-now
  where
    not-now : (a : Name) → ¬ (((a ≡ b) × (n ≡ m)) ⊎ I a)
    not-now a (inl e) = eqb-false n m p e.1
    not-now a (inr i) = never a i

pub issued? : (o : Before) → ((n : ℕ) → ((a : Name) × o.given a n) ⊎ ((a : Name) → ¬ o.given a n)) → (n : ℕ) (es : List Effect)
    → ((a : Name) × Issued o a n es) ⊎ ((a : Name) → ¬ Issued o a n es)
issued? o d n [] = d n
issued? o d n (fresh b m ∷ es) = now-or-before n m b (λ a. Issued o a n es) (split (eqb n m)) (issued? o d n es)
issued? o d n (known b m ∷ es) = issued? o d n es
issued? o d n (no-effect ∷ es) = issued? o d n es

-- ---- a call by what it asks

abbrev sort : Call → ℕ
sort (Call.add a) = 0
sort (Call.find a) = 1
sort (Call.read n x) = 2
sort (Call.count k) = 3

pub add-call : (a : Name) (f : Event) → Call.add a ≡ call_of f → (q : AddAnswer) × (f ≡ add a q)
add-call a (add b q) e = let u : b ≡ a = cc in (q, ap (λ (c : Name). add c q) u)
add-call a (find b q) e = absurd (omega (arith, ap sort e))
add-call a (read n x q y) e = absurd (omega (arith, ap sort e))
add-call a (count k q) e = absurd (omega (arith, ap sort e))

pub find-call : (a : Name) (f : Event) → Call.find a ≡ call_of f → (q : FindAnswer) × (f ≡ find a q)
find-call a (add b q) e = absurd (omega (arith, ap sort e))
find-call a (find b q) e = let u : b ≡ a = cc in (q, ap (λ (c : Name). find c q) u)
find-call a (read n x q y) e = absurd (omega (arith, ap sort e))
find-call a (count k q) e = absurd (omega (arith, ap sort e))

pub read-call : (n : ℕ) (x : Bytes) (f : Event) → Call.read n x ≡ call_of f → (q : ReadAnswer) × (z : Bytes) × (f ≡ read n x q z)
read-call n x (add b q) e = absurd (omega (arith, ap sort e))
read-call n x (find b q) e = absurd (omega (arith, ap sort e))
read-call n x (read m w q z) e =
    let u : m ≡ n = cc in
    let v : w ≡ x = cc in
    (q, z, λ i. read (u i) (v i) q z)
read-call n x (count k q) e = absurd (omega (arith, ap sort e))

pub count-call : (k : ℕ) (f : Event) → Call.count k ≡ call_of f → (q : CountAnswer) × (f ≡ count k q)
count-call k (add b q) e = absurd (omega (arith, ap sort e))
count-call k (find b q) e = absurd (omega (arith, ap sort e))
count-call k (read n x q y) e = absurd (omega (arith, ap sort e))
count-call k (count j q) e = let u : j ≡ k = cc in (q, ap (λ (i : ℕ). count i q) u)

-- ---- places

at_first : (e f : Event) (xs ys es fs : List Event) → AtBoth e f xs ys es fs → At e xs es
at_first e f xs ys [] fs c = absurd c
at_first e f xs ys (x ∷ es) [] c = absurd c
at_first e f xs ys (x ∷ es) (y ∷ fs) (inl c) = inl (c.0, c.2)
at_first e f xs ys (x ∷ es) (y ∷ fs) (inr c) = inr (at_first e f xs ys es fs c)

at_second : (e f : Event) (xs ys es fs : List Event) → AtBoth e f xs ys es fs → At f ys fs
at_second e f xs ys [] fs c = absurd c
at_second e f xs ys (x ∷ es) [] c = absurd c
at_second e f xs ys (x ∷ es) (y ∷ fs) (inl c) = inl (c.1, c.3)
at_second e f xs ys (x ∷ es) (y ∷ fs) (inr c) = inr (at_second e f xs ys es fs c)

at-effects : (e f : Event) (xs ys es fs : List Event) → effects es ≡ effects fs → AtBoth e f xs ys es fs → effects xs ≡ effects ys
at-effects e f xs ys [] fs h c = absurd c
at-effects e f xs ys (x ∷ es) [] h c = absurd c
at-effects e f xs ys (x ∷ es) (y ∷ fs) h (inl c) = let i : effects es ≡ effects fs = cc in rw (c.2, c.3) i
at-effects e f xs ys (x ∷ es) (y ∷ fs) h (inr c) = let i : effects es ≡ effects fs = cc in at-effects e f xs ys es fs i c

-- ---- an add is refused, or it was given a number

answered : (r : AddAnswer) → IsRefused r ⊎ ((n : ℕ) × Gave r n)
answered (AddAnswer.refused why) = inl (why, refl)
answered (AddAnswer.fresh n) = inr (n, inl refl)
answered (AddAnswer.known n) = inr (n, inr refl)

not-both : (r : AddAnswer) (n : ℕ) → IsRefused r → Gave r n → ⊥
not-both r n x (inl g) = let e : AddAnswer.refused x.0 ≡ AddAnswer.fresh n = sym x.1 ∙ g in cc
not-both r n x (inr g) = let e : AddAnswer.refused x.0 ≡ AddAnswer.known n = sym x.1 ∙ g in cc

-- ---- one call, after calls that did the same to the names

module _ (o : Before) (L : LookedUp o) (es fs : List Event) (D : Demand3 o es) (E : Demand3 o fs) (xs ys : List Event) (h : effects xs ≡ effects ys) where
  pub adds_same : (a : Name) (r q : AddAnswer) (m n : ℕ) → At (add a r) xs es → At (add a q) ys fs → Gave r m → Gave q n → r ≡ q
  adds_same a r q m n c d g k = go (given? o L.number a (effects xs))
    where
      go : ((i : ℕ) × Given o a i (effects xs)) ⊎ ((i : ℕ) → ¬ Given o a i (effects xs)) → r ≡ q
      go (inl x) = D.later xs a r m x.0 c g x.1 ∙ sym (E.later ys a q n x.0 d k (rw h at x.1))
      go (inr never) =
          let p : r ≡ AddAnswer.fresh m = D.first xs a r m c g never in
          let p' : q ≡ AddAnswer.fresh n = E.first ys a q n d k (rw h at never) in
          let u : o.rule (fresh_kinds (effects xs)) a.kind ≡ some m = D.in_order xs a m (rw p at c) in
          let v : o.rule (fresh_kinds (effects xs)) a.kind ≡ some n = rw h (E.in_order ys a n (rw p' at d)) in
          let w : m ≡ n = cc in
          p ∙ ap AddAnswer.fresh w ∙ sym p'

  pub finds-same : (a : Name) (r q : FindAnswer) → At (find a r) xs es → At (find a q) ys fs → Accepted r → Accepted q → r ≡ q
  finds-same a r q c d g k = go (given? o L.number a (effects xs))
    where
      go : ((i : ℕ) × Given o a i (effects xs)) ⊎ ((i : ℕ) → ¬ Given o a i (effects xs)) → r ≡ q
      go (inl x) = D.find-after xs a r x.0 c g x.1 ∙ sym (E.find-after ys a q x.0 d k (rw h at x.1))
      go (inr never) = D.find-before xs a r c g never ∙ sym (E.find-before ys a q d k (rw h at never))

  pub reads_same : (n : ℕ) (x y z : Bytes) (r q : ReadAnswer) → At (read n x r y) xs es → At (read n x q z) ys fs
      → ((a : Name) → Issued o a n (effects xs) → size a ≤ length x) → (r ≡ q) × (y ≡ z)
  reads_same n x y z r q c d long = go (issued? o L.name n (effects xs))
    where
      go : ((a : Name) × Issued o a n (effects xs)) ⊎ ((a : Name) → ¬ Issued o a n (effects xs)) → (r ≡ q) × (y ≡ z)
      go (inl i) =
          let u = D.read_name xs n x y r i.0 c i.1 (long i.0 i.1) in
          let v = E.read_name ys n x z q i.0 d (rw h at i.1) (long i.0 i.1) in
          (u.0 ∙ sym v.0, u.1 ∙ sym v.1)
      go (inr never) =
          let u = D.read_none xs n x y r c never in
          let v = E.read_none ys n x z q d (rw h at never) in
          (u.0 ∙ sym v.0, u.1 ∙ sym v.1)

  pub counts_same : (k : ℕ) (r q : CountAnswer) → At (count k r) xs es → At (count k q) ys fs → k < kinds → r ≡ q
  counts_same k r q c d l = D.counts xs k r c l ∙ sym (rw h (E.counts ys k q d l))

-- ---- what was there before a list can be looked up

-- Before a list from a freshly opened dictionary there was nothing.
pub nothing-looked-up : (s : Sizes) → LookedUp (nothing s)
nothing-looked-up s = record { number = λ a. inr (λ n g. g); name = λ n. inr (λ a g. g) }

-- Before a list from a good state there was what the state has.
pub state-looked-up : (s : Sizes) (st : State) → Good s st → LookedUp (before_of s st)
state-looked-up s st G = record { number = λ a. by_name a (number_of s st a) refl; name = λ n. by_number n (name_of s st n) refl }
  where
    by_name : (a : Name) (o : Option ℕ) → number_of s st a ≡ o → ((n : ℕ) × (number_of s st a ≡ some n)) ⊎ ((n : ℕ) → ¬ (number_of s st a ≡ some n))
    by_name a (some n) e = inl (n, e)
    by_name a none e = inr (λ n g. let w : none ≡ some n = sym e ∙ g in cc)

    by_number : (n : ℕ) (o : Option Name) → name_of s st n ≡ o → ((a : Name) × (number_of s st a ≡ some n)) ⊎ ((a : Name) → ¬ (number_of s st a ≡ some n))
    by_number n (some a) e = inl (a, number-back s st G a n e)
    by_number n none e = inr (λ a g. let w : none ≡ some a = sym e ∙ read_back s st G a n g in cc)

-- ---- the whole lists

module _ (o : Before) (L : LookedUp o) where
  same_effect : (e f : Event) (es fs : List Event) → Demand3 o (e ∷ es) → Demand3 o (f ∷ fs) → effects es ≡ effects fs → call_of e ≡ call_of f
      → RefusedAlike (e ∷ es) (f ∷ fs) → effect e ≡ effect f
  same_effect (add a r) f es fs D E h c alike =
      let F = add-call a f c in
      let E' : Demand3 o (add a F.0 ∷ fs) = rw F.1 at E in
      let alike' : IsRefused r ↔ IsRefused F.0 = alike a a r F.0 es fs (inl (refl, sym F.1, refl, refl)) in
      by-answers F.0 E' alike' (answered r) (answered F.0) ∙ ap effect (sym F.1)
    where
      by-answers : (q : AddAnswer) → Demand3 o (add a q ∷ fs) → IsRefused r ↔ IsRefused q → IsRefused r ⊎ ((n : ℕ) × Gave r n) → IsRefused q ⊎ ((n : ℕ) × Gave q n)
          → effect (add a r) ≡ effect (add a q)
      by-answers q E' k (inl x) (inl y) = rw (x.1, y.1)
      by-answers q E' k (inl x) (inr y) = absurd (not-both q y.0 (k.0 x) y.1)
      by-answers q E' k (inr x) (inl y) = absurd (not-both r x.0 (k.1 y) x.1)
      by-answers q E' k (inr x) (inr y) =
          ap (λ (u : AddAnswer). effect (add a u))
          (adds_same o L (add a r ∷ es) (add a q ∷ fs) D E' es fs h a r q x.0 y.0 (inl (refl, refl)) (inl (refl, refl)) x.1 y.1)
  same_effect (find a r) f es fs D E h c alike = let F = find-call a f c in ap effect (sym F.1)
  same_effect (read n x r y) f es fs D E h c alike = let F = read-call n x f c in ap effect (sym F.2)
  same_effect (count k r) f es fs D E h c alike = let F = count-call k f c in ap effect (sym F.1)

  pub same-effects : (es fs : List Event) → Demand3 o es → Demand3 o fs → SameCalls es fs → RefusedAlike es fs → effects es ≡ effects fs
  same-effects [] [] D E c alike = refl
  same-effects [] (f ∷ fs) D E c alike = cc
  same-effects (e ∷ es) [] D E c alike = cc
  same-effects (e ∷ es) (f ∷ fs) D E c alike =
      let head : call_of e ≡ call_of f = cc in
      let rest : map call_of es ≡ map call_of fs = cc in
      let ih : effects es ≡ effects fs = same-effects es fs (older o e es D) (older o f fs E) rest (λ a b r q xs ys p. alike a b r q xs ys (inr p)) in
      rw (same_effect e f es fs D E ih head alike, ih)

  pub answers-determined : (es fs : List Event) → Demand3 o es → Demand3 o fs → SameCalls es fs → RefusedAlike es fs → SameAnswers o es fs
  answers-determined es fs D E c alike =
      let h : effects es ≡ effects fs = same-effects es fs D E c alike in
      record {
        adds = λ a r q m n xs ys p. adds_same o L es fs D E xs ys (at-effects _ _ xs ys es fs h p) a r q m n (at_first _ _ xs ys es fs p) (at_second _ _ xs ys es fs p);
        finds = λ a r q xs ys p. finds-same o L es fs D E xs ys (at-effects _ _ xs ys es fs h p) a r q (at_first _ _ xs ys es fs p) (at_second _ _ xs ys es fs p);
        reads = λ n x y z r q xs ys p. reads_same o L es fs D E xs ys (at-effects _ _ xs ys es fs h p) n x y z r q (at_first _ _ xs ys es fs p) (at_second _ _ xs ys es fs p);
        counts = λ k r q xs ys p. counts_same o L es fs D E xs ys (at-effects _ _ xs ys es fs h p) k r q (at_first _ _ xs ys es fs p) (at_second _ _ xs ys es fs p);
      }
