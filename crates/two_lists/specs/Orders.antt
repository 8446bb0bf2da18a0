-- Q-13, two engineers, two orders: what two freshly opened dictionaries have in common whose lists of calls gave numbers to the same names.
-- The lists have what each call did to the names (`effect` of model), newest first. Assumes nothing.
use Rattle.std.specs.Prelude.{ℕ, suc, ◌+◌, ◌*◌, ◌/◌, ◌%◌, ◌^◌, ◌<◌, ◌≡◌, ◌↔◌, ◌⊎◌, List, [], ◌∷◌}
use Rattle.layout.specs.declared.Sizes.{Sizes}
use Rattle.blocks.specs.Rule.{holding, granted}
use Rattle.model.specs.Names.{Name}
use Rattle.model.specs.Calls.{Effect, fresh, known, no-effect, nothing, Issued, fresh_kinds, how_many}

-- ---- "with the same set of names"

-- The name a was given a number.
abbrev pub Named : Name → List Effect → Type 0
Named a [] = ⊥
Named a (fresh b n ∷ es) = (a ≡ b) ⊎ Named a es
Named a (known b n ∷ es) = (a ≡ b) ⊎ Named a es
Named a (no-effect ∷ es) = Named a es

abbrev pub SameNames : List Effect → List Effect → Type 0
SameNames xs ys = (a : Name) → Named a xs ↔ Named a ys

-- ---- "each kind has equal counts, its local numbers run from 0 to the count less one in both"

-- How many names of the kind k were fresh.
abbrev pub fresh_of : ℕ → List Effect → ℕ
fresh_of k es = how_many 0 k (fresh_kinds es)

-- "The n-th fresh name of a kind, counted from 1, has local number n less one": a is a fresh name, its local number is l, and the number n was issued to it.
abbrev pub Numbered : Name → ℕ → ℕ → List Effect → Type 0
Numbered a l n [] = ⊥
Numbered a l n (fresh b m ∷ es) = ((a ≡ b) × (n ≡ m) × (suc l ≡ fresh_of b.kind (fresh b m ∷ es))) ⊎ Numbered a l n es
Numbered a l n (known b m ∷ es) = Numbered a l n es
Numbered a l n (no-effect ∷ es) = Numbered a l n es

-- "The global number is the global block × 2^w + n modulo 2^w": of the kind k's local number l, in the block that holds its local block after fresh names of
-- the kinds ks.
abbrev pub global_in : Sizes → List ℕ → ℕ → ℕ → ℕ
global_in s ks k l = holding (granted s ks) k (l / 2 ^ s.w) * 2 ^ s.w + l % 2 ^ s.w

-- The local numbers of the fresh names of the kind k, in a dictionary of the sizes s.
pub record LocalNumbers (s : Sizes) (k : ℕ) (es : List Effect) : Type 0 where
  -- Each number from 0 to the count less one is the local number of a fresh name,
  pub each : (l : ℕ) → l < fresh_of k es → (a : Name) × (n : ℕ) × (a.kind ≡ k) × Numbered a l n es
  -- and no other number is.
  pub no_other : (a : Name) (l n : ℕ) → a.kind ≡ k → Numbered a l n es → l < fresh_of k es
  -- It is that of one name, with one number,
  pub once : (a b : Name) (l m n : ℕ) → a.kind ≡ k → b.kind ≡ k → Numbered a l m es → Numbered b l n es → (a ≡ b) × (m ≡ n)
  -- which has no other local number.
  pub one : (a : Name) (l i m n : ℕ) → a.kind ≡ k → Numbered a l m es → Numbered a i n es → l ≡ i
  -- The block rule turns it into the number that was issued.
  pub issued : (a : Name) (l n : ℕ) → a.kind ≡ k → Numbered a l n es → n ≡ global_in s (fresh_kinds es) k l

-- ---- "just one pairing of the two books' numbers carries each to the number of the same name"

module _ (s t : Sizes) (xs ys : List Effect) where
  abbrev pub IssuedFirst : ℕ → Type 0
  IssuedFirst m = (a : Name) × Issued (nothing s) a m xs

  abbrev pub IssuedSecond : ℕ → Type 0
  IssuedSecond n = (a : Name) × Issued (nothing t) a n ys

  -- A pairing is a relation that holds only between a number that the first issued and one that the second issued.
  abbrev pub Pairing : (ℕ → ℕ → Type 0) → Type 0
  Pairing R = (m n : ℕ) → R m n → IssuedFirst m × IssuedSecond n

  -- It carries each number of the first to the number of the same name: each is in a pair, and each pair is one name's two numbers.
  pub record Carries (R : ℕ → ℕ → Type 0) : Type 0 where
    pub each : (m : ℕ) → IssuedFirst m → (n : ℕ) × R m n
    pub to_same : (a : Name) (m n : ℕ) → Issued (nothing s) a m xs → R m n → Issued (nothing t) a n ys

  -- Each number of either side is in exactly one pair.
  pub record EachOnce (R : ℕ → ℕ → Type 0) : Type 0 where
    pub first : (m : ℕ) → IssuedFirst m → (n : ℕ) × R m n × ((j : ℕ) → R m j → j ≡ n)
    pub second : (n : ℕ) → IssuedSecond n → (m : ℕ) × R m n × ((j : ℕ) → R j n → j ≡ m)

  -- The pairing: m and n are the two numbers of one name.
  abbrev pub Paired : ℕ → ℕ → Type 0
  Paired m n = (a : Name) × Issued (nothing s) a m xs × Issued (nothing t) a n ys

-- ---- Q-13, of dictionaries of the sizes s and t

pub record TwoOrders (s t : Sizes) (xs ys : List Effect) : Type 1 where
  -- "each kind has equal counts,"
  pub counts : (k : ℕ) → fresh_of k xs ≡ fresh_of k ys
  -- "its local numbers run from 0 to the count less one in both,"
  pub first-locals : (k : ℕ) → LocalNumbers s k xs
  pub second-locals : (k : ℕ) → LocalNumbers t k ys
  -- "and just one pairing of the two books' numbers carries each to the number of the same name": this one does,
  pub pairing : Pairing s t xs ys (Paired s t xs ys)
  pub each-once : EachOnce s t xs ys (Paired s t xs ys)
  pub carries : Carries s t xs ys (Paired s t xs ys)
  -- and any pairing that does holds of the same pairs.
  pub only : (R : ℕ → ℕ → Type 0) → Pairing s t xs ys R → Carries s t xs ys R → (m n : ℕ) → R m n ↔ Paired s t xs ys m n
