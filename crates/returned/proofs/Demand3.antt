-- Demand 3 in the numbers that exported calls returned, from demand 3 of their answers. Assumes nothing.
use Prim.Native.Nat.{ℕ}
use mathlib.Core.Path.{◌≡◌, refl, ap, subst, ◌∙◌}
use mathlib.Core.Logic.{◌≢◌, inl, inr}
use mathlib.Core.List.{List, [], ◌∷◌, map}
use native.Mathlib.Omega.{arith}
use borrow.Author.Tests.{eq-eqb}
use lib.Dec.{eqb}
use Rattle.slices.specs.Bytes.{Bytes}
use Rattle.slices.proofs.Tests.{Split, split}
use Rattle.refusals.specs.declared.Refusal.TheVariants.{Unopened}
use Rattle.layout.specs.declared.Sizes.{Sizes}
use Rattle.model.specs.Answers.{AddAnswer, FindAnswer}
use Rattle.model.specs.Calls.{Event, effects, At, Gave, Accepted, nothing, Demand3}
use Rattle.model.specs.Runs.{RefusedFor}
use Rattle.memory.specs.Lists.{Memory}
use Rattle.memory.proofs.Brought.{brought-demand-3, brought-never-3}
use Rattle.memory.proofs.Demand3.{all-as-left}
use Rattle.numbers.specs.declared.NamedictNumbered.{NamedictNumbered}
use Rattle.numbers.specs.declared.NamedictName.{NamedictName}
use Rattle.numbers.specs.declared.NamedictCounted.{NamedictCounted}
use Rattle.numbers.specs.Numbers.{add_numbers, find_numbers, name_numbers, count_numbers}
use Rattle.numbers.specs.Answers.{add_of, find_of, read_of, count_of}
use Rattle.returned.specs.Returned.{OpenReturned, Returned, add, find, read, count, Exported, ExportedCalls, ExportedBrings, ExportedBrought, refusal_in, event_of}
use Rattle.returned.specs.Demand3.{effects_in, CountAfter, NameAfter, NoneAfter, Demand3InNumbers}
use Rattle.returned.proofs.Calls.{open-tells, call-tells, calls-tell, call_at, exact-at, effects-tell}

-- ---- one call, in numbers and by its answer

called_at : (e : Returned) (xs es : List Returned) → At e xs es → At (event_of e) (map event_of xs) (map event_of es)
called_at e xs [] p = absurd p
called_at e xs (x ∷ es) (inl p) = inl (ap event_of p.0, ap (map event_of) p.1)
called_at e xs (x ∷ es) (inr p) = inr (called_at e xs es p)

-- An add without a refusal was given its number.
pub gave-in : (r : NamedictNumbered) → r.refusal ≡ 0 → Gave (add_of r) r.number
gave-in r q = go (split (eqb r.word 1))
  where
    go : Split (eqb r.word 1) → Gave (add_of r) r.number
    go (inl w) = inl (rw (eq-eqb r.refusal 0 q, w))
    go (inr w) = inr (rw (eq-eqb r.refusal 0 q, w))

-- A find without a refusal is accepted.
accepted-in : (r : NamedictNumbered) → r.refusal ≡ 0 → Accepted (find_of r)
accepted-in r q why e = go (split (eqb r.word 2))
  where
    go : Split (eqb r.word 2) → ⊥
    go (inl w) = let f : FindAnswer.known r.number ≡ FindAnswer.refused why = rw (eq-eqb r.refusal 0 q, w) at e in let z : ◌≡◌ {A = ℕ} 0 1 = cc in absurd (omega arith)
    go (inr w) = let f : FindAnswer.absent ≡ FindAnswer.refused why = rw (eq-eqb r.refusal 0 q, w) at e in let z : ◌≡◌ {A = ℕ} 0 1 = cc in absurd (omega arith)

-- A call that returned 3 was refused as unopened.
unopened-in : (e : Returned) → refusal_in e ≡ 3 → RefusedFor Unopened (event_of e)
unopened-in (add a r) q = rw q
unopened-in (find a r) q = rw q
unopened-in (read n b r c) q = rw q
unopened-in (count k r) q = rw q

-- ---- from an exported open that returned 0

module _ (s : Sizes) (pages lists : Bytes) (m : Memory) (O : OpenReturned s pages lists 0 m.pages m.lists) where
  module _ (es : List Returned) (z : Memory) (c : ExportedBrought s m es z) where
    -- Demand 3 of the answers that the numbers tell.
    pub answered : Demand3 (nothing s) (map event_of es)
    answered = brought-demand-3 s pages lists m.pages m.lists (open-tells s pages lists 0 m.pages m.lists O) (map event_of es) z (calls-tell s m z es c)

    -- What the calls before one of the list did, by their numbers and by their answers.
    before-tells : (e : Returned) (xs : List Returned) → At e xs es → effects_in xs ≡ effects (map event_of xs)
    before-tells e xs p = let k = call_at s m z e xs es c p in effects-tell s m k.0 xs k.2

    pub brought-demand-3-in-numbers : Demand3InNumbers s es
    brought-demand-3-in-numbers = record {
      same = λ xs a b r n p q g. answered.same (map event_of xs) a b (add_of r) r.number n (called_at (add a r) xs es p) (gave-in r q) (rw (before-tells (add a r) xs p) at g);
      first = λ xs a r p q no.
          let x = answered.first (map event_of xs) a (add_of r) r.number (called_at (add a r) xs es p) (gave-in r q) (rw (before-tells (add a r) xs p) at no) in
          ap (λ (u : NamedictNumbered). u.word) (exact-at s m z (add a r) xs es c p ∙ ap add_numbers x);
      later = λ xs a r n p q g.
          exact-at s m z (add a r) xs es c p ∙ ap add_numbers (answered.later (map event_of xs) a (add_of r) r.number n (called_at (add a r) xs es p) (gave-in r q) (rw (before-tells (add a r) xs p) at g));
      find-after = λ xs a r n p q g.
          exact-at s m z (find a r) xs es c p ∙ ap find_numbers (answered.find-after (map event_of xs) a (find_of r) n (called_at (find a r) xs es p) (accepted-in r q) (rw (before-tells (find a r) xs p) at g));
      find-before = λ xs a r p q no.
          exact-at s m z (find a r) xs es c p ∙ ap find_numbers (answered.find-before (map event_of xs) a (find_of r) (called_at (find a r) xs es p) (accepted-in r q) (rw (before-tells (find a r) xs p) at no));
      in_order = λ xs a r p q w.
          let x : add_of r ≡ AddAnswer.fresh r.number = rw (eq-eqb r.refusal 0 q, eq-eqb r.word 1 w) in
          rw (before-tells (add a r) xs p) (answered.in_order (map event_of xs) a r.number (subst (λ u. At (Event.add a u) (map event_of xs) (map event_of es)) x (called_at (add a r) xs es p)));
      counts = λ xs k r p h.
          rw (before-tells (count k r) xs p) (exact-at s m z (count k r) xs es c p ∙ ap count_numbers (answered.counts (map event_of xs) k (count_of r) (called_at (count k r) xs es p) h));
      read_name = λ xs n x y r p a g h.
          let w = answered.read_name (map event_of xs) n x y (read_of r) a (called_at (read n x r y) xs es p) (rw (before-tells (read n x r y) xs p) at g) h in
          (exact-at s m z (read n x r y) xs es c p ∙ ap name_numbers w.0, w.1);
      read_none = λ xs n x y r p no.
          let w = answered.read_none (map event_of xs) n x y (read_of r) (called_at (read n x r y) xs es p) (rw (before-tells (read n x r y) xs p) at no) in
          (exact-at s m z (read n x r y) xs es c p ∙ ap name_numbers w.0, w.1);
    }

  pub demand-3-in-numbers : (es : List Returned) (z : Memory) → ExportedCalls m es z → Demand3InNumbers s es
  demand-3-in-numbers es z c = brought-demand-3-in-numbers es z (all-as-left Exported s m z es c)

  -- A count or a read after the list makes a longer list. By `as-left` of memory it may get the memory as the list left it.
  module _ (es : List Returned) (y z : Memory) (c : ExportedBrought s m es y) where
    pub count-after : (k : ℕ) (r : NamedictCounted) → ExportedBrings s y (count k r) z → CountAfter es k r
    count-after k r d = (brought-demand-3-in-numbers (count k r ∷ es) z (y, c, d)).counts es k r (inl (refl, refl))

    pub read-after : (n : ℕ) (b : Bytes) (r : NamedictName) (b' : Bytes) → ExportedBrings s y (read n b r b') z → NameAfter s es n b r b' × NoneAfter s es n b r b'
    read-after n b r b' d =
        let D = brought-demand-3-in-numbers (read n b r b' ∷ es) z (y, c, d) in
        (D.read_name es n b b' r (inl (refl, refl)), D.read_none es n b b' r (inl (refl, refl)))

    -- No call in such a list or after it returns 3.
    pub never-3-in-numbers : (e : Returned) → ExportedBrings s y e z → refusal_in e ≢ 3
    never-3-in-numbers e d q =
        brought-never-3 s pages lists m.pages m.lists (open-tells s pages lists 0 m.pages m.lists O) (map event_of es) y z (event_of e)
        (calls-tell s m y es c)
        (d.0, d.1, call-tells d.0 z e d.2)
        (unopened-in e q)
