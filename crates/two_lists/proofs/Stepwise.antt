-- What demand 3 says of the effects of a list from a freshly opened dictionary, effect by effect: a name has one number, and a number one name. Assumes nothing.
use Prim.Native.Nat.{ℕ}
use mathlib.Core.Path.{◌≡◌, refl, sym, ◌∙◌, subst}
use mathlib.Core.Logic.{◌≢◌, ◌⊎◌, inl, inr}
use mathlib.Core.Bool.{true}
use mathlib.Core.List.{List, [], ◌∷◌}
use mathlib.Core.Option.{some}
use Rattle.slices.proofs.Tests.{Split, split, clash}
use Rattle.layout.specs.declared.Sizes.{Sizes}
use Rattle.blocks.specs.Rule.{block_rule}
use Rattle.model.specs.Names.{Name, same_name}
use Rattle.model.specs.Answers.{AddAnswer}
use Rattle.model.specs.Calls.{Event, add, find, read, count, Effect, fresh, known, no-effect, effects, Before, nothing, Given, Issued, fresh_kinds, Demand3}
use Rattle.model.proofs.Names.{name-true, name-same}
use Rattle.model.proofs.Lists.{issued-given}
use Rattle.two_lists.specs.Orders.{Named}

-- ---- the list without its newest call

pub older : (o : Before) (e : Event) (es : List Event) → Demand3 o (e ∷ es) → Demand3 o es
older o e es D = record {
  same = λ xs a b r m n c. D.same xs a b r m n (inr c);
  first = λ xs a r n c. D.first xs a r n (inr c);
  later = λ xs a r n m c. D.later xs a r n m (inr c);
  find-after = λ xs a r n c. D.find-after xs a r n (inr c);
  find-before = λ xs a r c. D.find-before xs a r (inr c);
  in_order = λ xs a n c. D.in_order xs a n (inr c);
  counts = λ xs k r c. D.counts xs k r (inr c);
  read_name = λ xs n x y r a c. D.read_name xs n x y r a (inr c);
  read_none = λ xs n x y r c. D.read_none xs n x y r (inr c);
}

-- ---- whether a name was given a number

-- Some number or none, by whether it was given before or now.
now-or-before : (a b : Name) (m : ℕ) (G : ℕ → Type 0) → Split (same_name a b) → ((n : ℕ) × G n) ⊎ ((n : ℕ) → ¬ G n)
    → ((n : ℕ) × (((a ≡ b) × (n ≡ m)) ⊎ G n)) ⊎ ((n : ℕ) → ¬ (((a ≡ b) × (n ≡ m)) ⊎ G n))
now-or-before a b m G (inl p) d = inl (m, inl (name-true a b p, refl))
now-or-before a b m G (inr p) (inl g) = inl (g.0, inr g.1)
now-or-before a b m G (inr p) (inr never) = inr not-now
  where
    not-now : (n : ℕ) → ¬ (((a ≡ b) × (n ≡ m)) ⊎ G n)
    not-now n (inl e) = let q : same_name a b ≡ true = rw e.0 (name-same b) in clash q p
    not-now n (inr g) = never n g

pub given? : (o : Before) → ((a : Name) → ((n : ℕ) × o.given a n) ⊎ ((n : ℕ) → ¬ o.given a n)) → (a : Name) (es : List Effect)
    → ((n : ℕ) × Given o a n es) ⊎ ((n : ℕ) → ¬ Given o a n es)
given? o d a [] = d a
given? o d a (fresh b m ∷ es) = now-or-before a b m (λ n. Given o a n es) (split (same_name a b)) (given? o d a es)
given? o d a (known b m ∷ es) = now-or-before a b m (λ n. Given o a n es) (split (same_name a b)) (given? o d a es)
given? o d a (no-effect ∷ es) = given? o d a es

-- ---- effect by effect

-- A fresh name was given no number before, its number was given to no name, and it is the block rule's. A known name was given its number before.
abbrev pub Stepwise : Sizes → List Effect → Type 0
Stepwise s [] = Unit {0}
Stepwise s (fresh a n ∷ es) =
    ((b : Name) (m : ℕ) → Given (nothing s) b m es → (a ≢ b) × (n ≢ m)) × (block_rule s (fresh_kinds es) a.kind ≡ some n) × Stepwise s es
Stepwise s (known a n ∷ es) = Given (nothing s) a n es × Stepwise s es
Stepwise s (no-effect ∷ es) = Stepwise s es

-- Fresh and known are two answers.
apart : (m n : ℕ) → AddAnswer.fresh m ≢ AddAnswer.known n
apart m n e = cc

pub stepwise : (s : Sizes) (es : List Event) → Demand3 (nothing s) es → Stepwise s (effects es)
stepwise s [] D = tt
stepwise s (add a (AddAnswer.refused why) ∷ es) D = stepwise s es (older (nothing s) _ es D)
stepwise s (add a (AddAnswer.fresh n) ∷ es) D = (new, D.in_order es a n (inl (refl, refl)), stepwise s es (older (nothing s) _ es D))
  where
    new : (b : Name) (m : ℕ) → Given (nothing s) b m (effects es) → (a ≢ b) × (n ≢ m)
    new b m g =
        let other : a ≢ b = λ e. apart n m (D.later es a (AddAnswer.fresh n) n m (inl (refl, refl)) (inl refl) (rw e g)) in
        (other, λ e. other ((D.same es a b (AddAnswer.fresh n) n m (inl (refl, refl)) (inl refl) g).0 e))
stepwise s (add a (AddAnswer.known n) ∷ es) D = (before (given? (nothing s) (λ b. inr (λ m g. g)) a (effects es)), stepwise s es (older (nothing s) _ es D))
  where
    before : ((m : ℕ) × Given (nothing s) a m (effects es)) ⊎ ((m : ℕ) → ¬ Given (nothing s) a m (effects es)) → Given (nothing s) a n (effects es)
    before (inl g) =
        let e : AddAnswer.known n ≡ AddAnswer.known g.0 = D.later es a (AddAnswer.known n) n g.0 (inl (refl, refl)) (inr refl) g.1 in
        let u : n ≡ g.0 = cc in
        rw u g.1
    before (inr never) = absurd (apart n n (sym (D.first es a (AddAnswer.known n) n (inl (refl, refl)) (inr refl) never)))
stepwise s (find a r ∷ es) D = stepwise s es (older (nothing s) _ es D)
stepwise s (read n x r y ∷ es) D = stepwise s es (older (nothing s) _ es D)
stepwise s (count k r ∷ es) D = stepwise s es (older (nothing s) _ es D)

-- ---- names and numbers

module _ (s : Sizes) where
  -- Each name that was given a number was fresh when it was given it first.
  given-issued : (a : Name) (n : ℕ) (es : List Effect) → Stepwise s es → Given (nothing s) a n es → Issued (nothing s) a n es
  given-issued a n [] S g = g
  given-issued a n (fresh b m ∷ es) S (inl e) = inl e
  given-issued a n (fresh b m ∷ es) S (inr g) = inr (given-issued a n es S.2 g)
  given-issued a n (known b m ∷ es) S (inl e) =
      subst (λ (x : Name). Issued (nothing s) x n es) (sym e.0) (subst (λ (k : ℕ). Issued (nothing s) b k es) (sym e.1) (given-issued b m es S.1 S.0))
  given-issued a n (known b m ∷ es) S (inr g) = given-issued a n es S.1 g
  given-issued a n (no-effect ∷ es) S g = given-issued a n es S g

  named-given : (a : Name) (es : List Effect) → Named a es → (n : ℕ) × Given (nothing s) a n es
  named-given a [] x = absurd x
  named-given a (fresh b m ∷ es) (inl e) = (m, inl (e, refl))
  named-given a (fresh b m ∷ es) (inr x) = let g = named-given a es x in (g.0, inr g.1)
  named-given a (known b m ∷ es) (inl e) = (m, inl (e, refl))
  named-given a (known b m ∷ es) (inr x) = let g = named-given a es x in (g.0, inr g.1)
  named-given a (no-effect ∷ es) x = named-given a es x

  pub named-issued : (a : Name) (es : List Effect) → Stepwise s es → Named a es → (n : ℕ) × Issued (nothing s) a n es
  named-issued a es S x = let g = named-given a es x in (g.0, given-issued a g.0 es S g.1)

  pub issued-named : (a : Name) (n : ℕ) (es : List Effect) → Issued (nothing s) a n es → Named a es
  issued-named a n [] i = i
  issued-named a n (fresh b m ∷ es) (inl e) = inl e.0
  issued-named a n (fresh b m ∷ es) (inr i) = inr (issued-named a n es i)
  issued-named a n (known b m ∷ es) i = inr (issued-named a n es i)
  issued-named a n (no-effect ∷ es) i = issued-named a n es i

  pub one_number : (a : Name) (m n : ℕ) (es : List Effect) → Stepwise s es → Issued (nothing s) a m es → Issued (nothing s) a n es → m ≡ n
  one_number a m n [] S i j = absurd i
  one_number a m n (fresh b k ∷ es) S (inl i) (inl j) = i.1 ∙ sym j.1
  one_number a m n (fresh b k ∷ es) S (inl i) (inr j) = absurd ((S.0 a n (issued-given (nothing s) a n es j)).0 (sym i.0))
  one_number a m n (fresh b k ∷ es) S (inr i) (inl j) = absurd ((S.0 a m (issued-given (nothing s) a m es i)).0 (sym j.0))
  one_number a m n (fresh b k ∷ es) S (inr i) (inr j) = one_number a m n es S.2 i j
  one_number a m n (known b k ∷ es) S i j = one_number a m n es S.1 i j
  one_number a m n (no-effect ∷ es) S i j = one_number a m n es S i j

  pub one_name : (a b : Name) (n : ℕ) (es : List Effect) → Stepwise s es → Issued (nothing s) a n es → Issued (nothing s) b n es → a ≡ b
  one_name a b n [] S i j = absurd i
  one_name a b n (fresh c k ∷ es) S (inl i) (inl j) = i.0 ∙ sym j.0
  one_name a b n (fresh c k ∷ es) S (inl i) (inr j) = absurd ((S.0 b n (issued-given (nothing s) b n es j)).1 (sym i.1))
  one_name a b n (fresh c k ∷ es) S (inr i) (inl j) = absurd ((S.0 a n (issued-given (nothing s) a n es i)).1 (sym j.1))
  one_name a b n (fresh c k ∷ es) S (inr i) (inr j) = one_name a b n es S.2 i j
  one_name a b n (known c k ∷ es) S i j = one_name a b n es S.1 i j
  one_name a b n (no-effect ∷ es) S i j = one_name a b n es S i j
