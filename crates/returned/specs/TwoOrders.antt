-- Q-13, two engineers, two orders, said of exported calls and of the numbers that they returned, newest first. Assumes nothing.
use Rattle.std.specs.Prelude.{ℕ, ◌<◌, ◌≡◌, ◌↔◌, ◌⊎◌, List, [], ◌∷◌}
use Rattle.slices.specs.Bytes.{Bytes}
use Rattle.layout.specs.declared.Sizes.{Sizes}
use Rattle.layout.specs.Sizes.{kinds}
use Rattle.model.specs.Names.{Name}
use Rattle.memory.specs.Lists.{Memory}
use Rattle.two_lists.specs.Orders.{fresh_of, TwoOrders}
use Rattle.numbers.specs.declared.NamedictCounted.{NamedictCounted}
use Rattle.returned.specs.Returned.{OpenReturned, Returned, add, find, read, count, ExportedBrings, ExportedBrought}
use Rattle.returned.specs.Demand3.{effects_in}

-- "For two freshly opened books": an open of the sizes s returned 0, then came the calls es, and they left z.
pub record FromOpen (s : Sizes) (es : List Returned) (z : Memory) : Type 0 where
  pub pages : Bytes
  pub lists : Bytes
  pub begun : Memory
  pub opens : OpenReturned s pages lists 0 begun.pages begun.lists
  pub calls : ExportedBrought s begun es z

-- "and two lists of adds, none refused,"
abbrev pub AcceptedAdds : List Returned → Type 0
AcceptedAdds [] = Unit {0}
AcceptedAdds (add a r ∷ es) = (r.refusal ≡ 0) × AcceptedAdds es
AcceptedAdds (find a r ∷ es) = ⊥
AcceptedAdds (read n b r c ∷ es) = ⊥
AcceptedAdds (count k r ∷ es) = ⊥

-- The list has an add of the name a.
abbrev pub Adds : Name → List Returned → Type 0
Adds a [] = ⊥
Adds a (add b r ∷ es) = (a ≡ b) ⊎ Adds a es
Adds a (find b r ∷ es) = Adds a es
Adds a (read n b r c ∷ es) = Adds a es
Adds a (count k r ∷ es) = Adds a es

-- "with the same set of names:"
abbrev pub SameAdds : List Returned → List Returned → Type 0
SameAdds xs ys = (a : Name) → Adds a xs ↔ Adds a ys

-- What the calls xs and ys then have in common. They left y and z.
pub record TwoOrdersInNumbers (s t : Sizes) (xs ys : List Returned) (y z : Memory) : Type 1 where
  -- the local numbers, and just one pairing,
  pub orders : TwoOrders s t (effects_in xs) (effects_in ys)
  -- "each kind has equal counts": a count after either list returns how many names of the kind were fresh.
  pub counted : (k : ℕ) (r q : NamedictCounted) (y' z' : Memory) → ExportedBrings s y (count k r) y' → ExportedBrings t z (count k q) z' → k < kinds
      → (r ≡ record { refusal = 0; count = fresh_of k (effects_in xs) }) × (q ≡ r)
