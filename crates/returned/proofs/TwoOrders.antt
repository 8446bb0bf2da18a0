-- Q-13, two engineers, two orders, in the numbers that exported calls returned. Assumes nothing.
use Prim.Native.Nat.{ℕ}
use mathlib.Core.Path.{◌≡◌, sym, ap, subst, ◌∙◌}
use mathlib.Core.Logic.{◌↔◌, ◌⊎◌, inl, inr, ⊎_map}
use mathlib.Core.List.{List, [], ◌∷◌, map}
use Rattle.layout.specs.declared.Sizes.{Sizes}
use Rattle.model.specs.Names.{Name}
use Rattle.model.specs.Answers.{AddAnswer}
use Rattle.model.specs.Calls.{Event, Effect, effect, effects, Gave, nothing, Demand3}
use Rattle.memory.specs.Lists.{Memory}
use Rattle.two_lists.specs.Orders.{Named, fresh_of, TwoOrders}
use Rattle.two_lists.proofs.Orders.{two-orders}
use Rattle.numbers.specs.Answers.{add_of}
use Rattle.returned.specs.Returned.{Returned, add, find, read, count, event_of}
use Rattle.returned.specs.Demand3.{effects_in}
use Rattle.returned.specs.TwoOrders.{FromOpen, AcceptedAdds, Adds, SameAdds, TwoOrdersInNumbers}
use Rattle.returned.proofs.Calls.{effects-tell}
use Rattle.returned.proofs.Demand3.{gave-in, answered, count-after}

-- An add that was given a number gave it to its name.
named_by : (a b : Name) (r : AddAnswer) (n : ℕ) (es : List Effect) → Gave r n → ((a ≡ b) ⊎ Named a es) ↔ Named a (effect (Event.add b r) ∷ es)
named_by a b r n es (inl g) = rw g (λ x. x, λ x. x)
named_by a b r n es (inr g) = rw g (λ x. x, λ x. x)

-- Where no add is refused, the names added are those that were given numbers.
adds-named : (a : Name) (es : List Returned) → AcceptedAdds es → Adds a es ↔ Named a (effects (map event_of es))
adds-named a [] A = (λ x. x, λ x. x)
adds-named a (add b r ∷ es) A =
    let ih : Adds a es ↔ Named a (effects (map event_of es)) = adds-named a es A.1 in
    let by : ((a ≡ b) ⊎ Named a (effects (map event_of es))) ↔ Named a (effects (map event_of (add b r ∷ es))) =
    named_by a b (add_of r) r.number (effects (map event_of es)) (gave-in r A.0) in
    (λ x. by.0 (⊎_map (λ u. u) ih.0 x), λ x. ⊎_map (λ u. u) ih.1 (by.1 x))
adds-named a (find b r ∷ es) A = absurd A
adds-named a (read n b r c ∷ es) A = absurd A
adds-named a (count k r ∷ es) A = absurd A

module _ (s : Sizes) (es : List Returned) (z : Memory) (O : FromOpen s es z) where
  told : Demand3 (nothing s) (map event_of es)
  told = answered s O.pages O.lists O.begun O.opens es z O.calls

  tells : effects (map event_of es) ≡ effects_in es
  tells = sym (effects-tell s O.begun z es O.calls)

module _ (s t : Sizes) (xs ys : List Returned) (y z : Memory) (O : FromOpen s xs y) (P : FromOpen t ys z)
    (A : AcceptedAdds xs) (B : AcceptedAdds ys) (same : SameAdds xs ys) where
  orders : TwoOrders s t (effects_in xs) (effects_in ys)
  orders =
      let T = two-orders s t (map event_of xs) (map event_of ys) (told s xs y O) (told t ys z P)
      (λ a. (
        λ n. (adds-named a ys B).0 ((same a).0 ((adds-named a xs A).1 n)),
        λ n. (adds-named a xs A).0 ((same a).1 ((adds-named a ys B).1 n)),
      )) in
      subst (λ (es : List Effect). TwoOrders s t es (effects_in ys)) (tells s xs y O)
      (subst (λ (es : List Effect). TwoOrders s t (effects (map event_of xs)) es) (tells t ys z P) T)

  pub two-orders-in-numbers : TwoOrdersInNumbers s t xs ys y z
  two-orders-in-numbers = record {
    orders = orders;
    counted = λ k r q y' z' c d h.
        let e : r ≡ record { refusal = 0; count = fresh_of k (effects_in xs) } = count-after s O.pages O.lists O.begun O.opens xs y y' O.calls k r c h in
        let f : q ≡ record { refusal = 0; count = fresh_of k (effects_in ys) } = count-after t P.pages P.lists P.begun P.opens ys z z' P.calls k q d h in
        (e, f ∙ ap (λ (n : ℕ). record { refusal = 0; count = n }) (sym (orders.counts k)) ∙ sym e);
  }
