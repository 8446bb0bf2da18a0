-- Demand 3, said of the numbers that exported calls returned, newest first. Assumes nothing.
use Rattle.std.specs.Prelude.{ℕ, ◌≤◌, ◌<◌, cond, ◌≡◌, ◌↔◌, List, ◌++◌, map, eqb, length, drop}
use Rattle.std.proofs.Math.Option.{some}
use Rattle.slices.specs.Bytes.{Bytes}
use Rattle.layout.specs.declared.Sizes.{Sizes}
use Rattle.layout.specs.Sizes.{kinds}
use Rattle.blocks.specs.Rule.{block_rule}
use Rattle.model.specs.Names.{Name, size}
use Rattle.model.specs.Calls.{Effect, fresh, known, no-effect, At, nothing, Given, Issued, fresh_kinds, how_many}
use Rattle.numbers.specs.declared.NamedictNumbered.{NamedictNumbered}
use Rattle.numbers.specs.declared.NamedictName.{NamedictName}
use Rattle.numbers.specs.declared.NamedictCounted.{NamedictCounted}
use Rattle.returned.specs.Returned.{Returned, add, find, read, count}

-- ---- what a call did to the names, by the numbers that it returned

-- An add with refusal 0 gave the name its number. Its word 1 says fresh, and 2 says known; it has no other (`exact-at` of proofs/Calls.antt).
abbrev pub effect_in : Returned → Effect
effect_in (add a r) =
    cond (eqb r.refusal 0)
    (cond (eqb r.word 1) (fresh a r.number)
    (cond (eqb r.word 2) (known a r.number) no-effect))
    no-effect
effect_in (find a r) = no-effect
effect_in (read n b r c) = no-effect
effect_in (count k r) = no-effect

abbrev pub effects_in : List Returned → List Effect
effects_in es = map effect_in es

-- ---- what a count and a read give after the calls xs, with nothing before these

-- A count of the kind k gives how many adds of the kind had said fresh by then.
abbrev pub CountAfter : List Returned → ℕ → NamedictCounted → Type 0
CountAfter xs k r = k < kinds → r ≡ record { refusal = 0; count = how_many 0 k (fresh_kinds (effects_in xs)) }

-- A read of n gives exactly its name for each number issued by then, if the buffer is long enough. The buffer was b and is c.
abbrev pub NameAfter : Sizes → List Returned → ℕ → Bytes → NamedictName → Bytes → Type 0
NameAfter s xs n b r c =
    (a : Name) → Issued (nothing s) a n (effects_in xs) → size a ≤ length b
    → (r ≡ record { refusal = 0; word = 4; kind = a.kind; first_len = length a.first; second_len = length a.second })
    × (c ≡ a.first ++ a.second ++ drop (size a) b)

-- It gives none for every other number.
abbrev pub NoneAfter : Sizes → List Returned → ℕ → Bytes → NamedictName → Bytes → Type 0
NoneAfter s xs n b r c =
    ((a : Name) → ¬ Issued (nothing s) a n (effects_in xs))
    → (r ≡ record { refusal = 0; word = 0; kind = 0; first_len = 0; second_len = 0 }) × (c ≡ b)

-- ---- demand 3, of a list of exported calls in a dictionary of the sizes s

pub record Demand3InNumbers (s : Sizes) (es : List Returned) : Type 0 where
  -- Two adds that were given numbers, one before the other, got the same number exactly when kind and both parts are equal.
  pub same : (xs : List Returned) (a b : Name) (r : NamedictNumbered) (n : ℕ) → At (add a r) xs es
      → r.refusal ≡ 0 → Given (nothing s) b n (effects_in xs) → (r.number ≡ n) ↔ (a ≡ b)
  -- A name's first such add said fresh,
  pub first : (xs : List Returned) (a : Name) (r : NamedictNumbered) → At (add a r) xs es
      → r.refusal ≡ 0 → ((n : ℕ) → ¬ Given (nothing s) a n (effects_in xs)) → r.word ≡ 1
  -- later ones known;
  pub later : (xs : List Returned) (a : Name) (r : NamedictNumbered) (n : ℕ) → At (add a r) xs es
      → r.refusal ≡ 0 → Given (nothing s) a n (effects_in xs) → r ≡ record { refusal = 0; word = 2; number = n }
  -- an accepted find gave that number after it,
  pub find-after : (xs : List Returned) (a : Name) (r : NamedictNumbered) (n : ℕ) → At (find a r) xs es
      → r.refusal ≡ 0 → Given (nothing s) a n (effects_in xs) → r ≡ record { refusal = 0; word = 2; number = n }
  -- and none before it or without one.
  pub find-before : (xs : List Returned) (a : Name) (r : NamedictNumbered) → At (find a r) xs es
      → r.refusal ≡ 0 → ((n : ℕ) → ¬ Given (nothing s) a n (effects_in xs)) → r ≡ record { refusal = 0; word = 0; number = 0 }
  -- The n-th fresh name of a kind has the number that the block rule gives from the kinds of the fresh names, in order.
  pub in_order : (xs : List Returned) (a : Name) (r : NamedictNumbered) → At (add a r) xs es
      → r.refusal ≡ 0 → r.word ≡ 1 → block_rule s (fresh_kinds (effects_in xs)) a.kind ≡ some r.number
  -- A count of a kind gives how many adds of the kind had said fresh by then.
  pub counts : (xs : List Returned) (k : ℕ) (r : NamedictCounted) → At (count k r) xs es → CountAfter xs k r
  -- A read gives exactly its name for each number issued by then, if the buffer is long enough,
  pub read_name : (xs : List Returned) (n : ℕ) (b c : Bytes) (r : NamedictName) → At (read n b r c) xs es → NameAfter s xs n b r c
  -- and none for every other number.
  pub read_none : (xs : List Returned) (n : ℕ) (b c : Bytes) (r : NamedictName) → At (read n b r c) xs es → NoneAfter s xs n b r c
