-- Two lists of the same calls, with the same list length, legal names and block rule, differ first at an add that refusal 9 meets in one of them. Assumes nothing.
use Prim.Native.Nat.{ℕ, ◌≤◌}
use mathlib.Core.Path.{◌≡◌, refl, sym, ap, ◌∙◌}
use mathlib.Core.Logic.{◌⊎◌, inl, inr}
use mathlib.Core.List.{List}
use mathlib.Core.Option.{Option, none, some}
use native.Mathlib.Omega.{arith}
use borrow.Author.Tests.{ltb-true, ltb-false}
use lib.Dec.{ltb}
use lib.ListN.{length}
use Rattle.slices.specs.Bytes.{Bytes}
use Rattle.slices.proofs.Tests.{Split, split}
use Rattle.refusals.specs.declared.Refusal.{Refusal}
use Rattle.refusals.specs.declared.Refusal.TheVariants.{NoPage}
use Rattle.layout.specs.Sizes.{kinds}
use Rattle.model.specs.Names.{Name, size}
use Rattle.model.specs.Answers.{AddAnswer, FindAnswer, ReadAnswer, CountAnswer}
use Rattle.model.specs.Calls.{Event, add, find, read, count, effects, At, Before, Given, Issued, fresh_kinds, Demand3}
use Rattle.two_lists.specs.Calls.{call_of, LookedUp}
use Rattle.two_lists.specs.Refused.{by_rule, NotGiven, counted_by, Refusals, HasNoPage}
use Rattle.two_lists.proofs.Stepwise.{given?}
use Rattle.two_lists.proofs.Calls.{issued?, add-call, find-call, read-call, count-call, finds-same, reads_same, counts_same}

module _ (e : ℕ) (illegal : Name → Option Refusal) (o : Before) (L : LookedUp o) (es fs : List Event)
    (D : Demand3 o es) (E : Demand3 o fs) (R : Refusals e illegal o es) (Q : Refusals e illegal o fs) (xs : List Event) where
  -- An add after the same calls with the same answers.
  next-add : (a : Name) (r q : AddAnswer) → At (add a r) xs es → At (add a q) xs fs → (r ≡ q) ⊎ ((r ≡ AddAnswer.refused NoPage) ⊎ (q ≡ AddAnswer.refused NoPage))
  next-add a r q c d = checked (illegal a) refl
    where
      roomy : (r ≡ AddAnswer.refused NoPage) ⊎ (r ≡ by_rule (o.rule (fresh_kinds (effects xs)) a.kind))
          → (q ≡ AddAnswer.refused NoPage) ⊎ (q ≡ by_rule (o.rule (fresh_kinds (effects xs)) a.kind))
          → (r ≡ q) ⊎ ((r ≡ AddAnswer.refused NoPage) ⊎ (q ≡ AddAnswer.refused NoPage))
      roomy (inl x) y = inr (inl x)
      roomy (inr x) (inl y) = inr (inr y)
      roomy (inr x) (inr y) = inl (x ∙ sym y)

      listed : illegal a ≡ none → NotGiven o a xs → Split (ltb (counted_by o a.kind xs) e)
          → (r ≡ q) ⊎ ((r ≡ AddAnswer.refused NoPage) ⊎ (q ≡ AddAnswer.refused NoPage))
      listed i never (inl p) = let l = ltb-true (counted_by o a.kind xs) e p in roomy (R.add-room xs a r c i never l) (Q.add-room xs a q d i never l)
      listed i never (inr p) =
          let l : e ≤ counted_by o a.kind xs = omega (arith, ltb-false (counted_by o a.kind xs) e p) in
          inl (R.add-full xs a r c i never l ∙ sym (Q.add-full xs a q d i never l))

      looked : illegal a ≡ none → ((n : ℕ) × Given o a n (effects xs)) ⊎ ((n : ℕ) → ¬ Given o a n (effects xs))
          → (r ≡ q) ⊎ ((r ≡ AddAnswer.refused NoPage) ⊎ (q ≡ AddAnswer.refused NoPage))
      looked i (inl g) = inl (R.add-known xs a r g.0 c i g.1 ∙ sym (Q.add-known xs a q g.0 d i g.1))
      looked i (inr never) = listed i never (split (ltb (counted_by o a.kind xs) e))

      checked : (i : Option Refusal) → illegal a ≡ i → (r ≡ q) ⊎ ((r ≡ AddAnswer.refused NoPage) ⊎ (q ≡ AddAnswer.refused NoPage))
      checked (some why) i = inl (R.add-illegal xs a r why c i ∙ sym (Q.add-illegal xs a q why d i))
      checked none i = looked i (given? o L.number a (effects xs))

  next-find : (a : Name) (r q : FindAnswer) → At (find a r) xs es → At (find a q) xs fs → r ≡ q
  next-find a r q c d = checked (illegal a) refl
    where
      checked : (i : Option Refusal) → illegal a ≡ i → r ≡ q
      checked (some why) i = R.find-illegal xs a r why c i ∙ sym (Q.find-illegal xs a q why d i)
      checked none i = finds-same o L es fs D E xs xs refl a r q c d (R.find-legal xs a r c i) (Q.find-legal xs a q d i)

  next-read : (n : ℕ) (x y z : Bytes) (r q : ReadAnswer) → At (read n x r y) xs es → At (read n x q z) xs fs → (r ≡ q) × (y ≡ z)
  next-read n x y z r q c d = looked (issued? o L.name n (effects xs))
    where
      long : (a : Name) → Issued o a n (effects xs) → Split (ltb (length x) (size a)) → (r ≡ q) × (y ≡ z)
      long a i (inl p) =
          let l = ltb-true (length x) (size a) p in
          let u = R.read_short xs n x y r a c i l in
          let v = Q.read_short xs n x z q a d i l in
          (u.0 ∙ sym v.0, u.1 ∙ sym v.1)
      long a i (inr p) =
          let l : size a ≤ length x = omega (arith, ltb-false (length x) (size a) p) in
          let u = D.read_name xs n x y r a c i l in
          let v = E.read_name xs n x z q a d i l in
          (u.0 ∙ sym v.0, u.1 ∙ sym v.1)

      looked : ((a : Name) × Issued o a n (effects xs)) ⊎ ((a : Name) → ¬ Issued o a n (effects xs)) → (r ≡ q) × (y ≡ z)
      looked (inl i) = long i.0 i.1 (split (ltb (length x) (size i.0)))
      looked (inr never) = reads_same o L es fs D E xs xs refl n x y z r q c d (λ a i. absurd (never a i))

  next-count : (k : ℕ) (r q : CountAnswer) → At (count k r) xs es → At (count k q) xs fs → r ≡ q
  next-count k r q c d = go (split (ltb k kinds))
    where
      go : Split (ltb k kinds) → r ≡ q
      go (inl p) = counts_same o L es fs D E xs xs refl k r q c d (ltb-true k kinds p)
      go (inr p) =
          let l : kinds ≤ k = omega (arith, ltb-false k kinds p) in
          R.count-kind xs k r c l ∙ sym (Q.count-kind xs k q d l)

  -- The same call after the same calls with the same answers: it gets the same answer, or it is an add that 9 meets in one of the lists.
  pub next-same : (f g : Event) → At f xs es → At g xs fs → call_of f ≡ call_of g → (f ≡ g) ⊎ (HasNoPage f ⊎ HasNoPage g)
  next-same (add a r) g c d k = let G = add-call a g k in go G.0 G.1 (next-add a r G.0 c (rw G.1 at d))
    where
      go : (q : AddAnswer) → g ≡ add a q → (r ≡ q) ⊎ ((r ≡ AddAnswer.refused NoPage) ⊎ (q ≡ AddAnswer.refused NoPage))
          → (add a r ≡ g) ⊎ (HasNoPage (add a r) ⊎ HasNoPage g)
      go q w (inl x) = inl (ap (λ (u : AddAnswer). add a u) x ∙ sym w)
      go q w (inr (inl x)) = inr (inl (a, ap (λ (u : AddAnswer). add a u) x))
      go q w (inr (inr x)) = inr (inr (a, w ∙ ap (λ (u : AddAnswer). add a u) x))
  next-same (find a r) g c d k =
      let G = find-call a g k in
      inl (ap (λ (u : FindAnswer). find a u) (next-find a r G.0 c (rw G.1 at d)) ∙ sym G.1)
  next-same (read n x r y) g c d k =
      let G = read-call n x g k in
      let w = next-read n x y G.1 r G.0 c (rw G.2 at d) in
      inl ((λ i. read n x (w.0 i) (w.1 i)) ∙ sym G.2)
  next-same (count j r) g c d k =
      let G = count-call j g k in
      inl (ap (λ (u : CountAnswer). count j u) (next-count j r G.0 c (rw G.1 at d)) ∙ sym G.1)
