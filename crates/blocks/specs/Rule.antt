-- The block rule of document 01, section Blocks. It uses only the sizes and the kinds of the fresh names, in order. Assumes nothing.
use Rattle.std.specs.Prelude.{ℕ, zero, suc, ◌+◌, ◌-◌, ◌*◌, ◌/◌, ◌%◌, ◌^◌, Bool, false, ◌||◌, ◌&&◌, cond, List, [], ◌∷◌, eqb}
use Rattle.std.proofs.Math.Option.{Option, none, some}
use Rattle.layout.specs.declared.Sizes.{Sizes}

-- What a fresh name was granted: its kind, its local block, and the global block that holds it. Lists of grants have the newest first.
pub record Grant : Type 0 where
  pub kind : ℕ
  pub local : ℕ
  pub block : ℕ

-- How many names of the kind k there are: the local number of its next one.
abbrev pub grants_of : ℕ → List Grant → ℕ
grants_of k [] = zero
grants_of k (x ∷ xs) = cond (eqb x.kind k) (suc (grants_of k xs)) (grants_of k xs)

abbrev pub taken : List Grant → ℕ → Bool
taken [] g = false
taken (x ∷ xs) g = eqb x.block g || taken xs g

-- The global block that holds the kind k's local block l.
abbrev pub holding : List Grant → ℕ → ℕ → ℕ
holding [] k l = zero
holding (x ∷ xs) k l = cond (eqb x.kind k && eqb x.local l) x.block (holding xs k l)

-- "The first free block upward is taken": the first of the n blocks from g up.
abbrev pub first_free : List Grant → ℕ → ℕ → Option ℕ
first_free xs g zero = none
first_free xs g (suc n) = cond (taken xs g) (first_free xs (suc g) n) (some g)

-- "A kind's first local block searches from global block 0. Its next, after local block l held in global block g, searches from g + l."
abbrev pub search_from : List Grant → ℕ → ℕ → ℕ
search_from xs k zero = zero
search_from xs k (suc l) = holding xs k l + l

-- The block of the kind k's next local number n, which "is in local block n / 2^w". If that local block begins with n, a block is searched for.
abbrev pub block_for : Sizes → List Grant → ℕ → ℕ → Option ℕ
block_for s xs k n =
    cond (eqb (n % 2 ^ s.w) zero)
    (first_free xs (search_from xs k (n / 2 ^ s.w)) (s.b - search_from xs k (n / 2 ^ s.w)))
    (some (holding xs k (n / 2 ^ s.w)))

-- One name more, of the kind k; a refused one takes no block.
abbrev pub granted_in : Sizes → List Grant → ℕ → Option ℕ → List Grant
granted_in s xs k none = xs
granted_in s xs k (some g) = record { kind = k; local = grants_of k xs / 2 ^ s.w; block = g } ∷ xs

abbrev pub granted : Sizes → List ℕ → List Grant
granted s [] = []
granted s (k ∷ ks) = granted_in s (granted s ks) k (block_for s (granted s ks) k (grants_of k (granted s ks)))

-- "The global number is the global block × 2^w + n modulo 2^w."
abbrev pub number_in : Sizes → ℕ → Option ℕ → Option ℕ
number_in s n none = none
number_in s n (some g) = some (g * 2 ^ s.w + n % 2 ^ s.w)

-- The number that a fresh name of the kind k gets after fresh names of the kinds ks, newest first. none: the search finds no free block.
unfoldable pub block_rule : Sizes → List ℕ → ℕ → Option ℕ
block_rule s ks k = number_in s (grants_of k (granted s ks)) (block_for s (granted s ks) k (grants_of k (granted s ks)))
