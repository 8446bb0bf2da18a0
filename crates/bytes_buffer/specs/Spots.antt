-- Where an entry goes, by the words of `lists`. Assumes nothing.
use Rattle.std.specs.Prelude.{ℕ, ◌+◌, ◌-◌, ◌<◌, ◌≤◌, ◌≡◌, ◌⊎◌, cond, eqb, leb, ltb, Option, Some, None, Result, Ok, Err}
use Rattle.layout.specs.declared.Sizes.{Sizes}
use Rattle.layout.specs.Sizes.{page_size}
use Rattle.layout.specs.Fields.{current_at, page_at, used_of}
use Rattle.bytes_buffer.specs.declared.Spot.{Spot}
use Rattle.bytes_buffer.specs.declared.Spot.TheVariants.{Current, Next}
use Rattle.refusals.specs.declared.Refusal.{Refusal}
use Rattle.refusals.specs.declared.Refusal.TheVariants.{Unopened, NoPage}

-- A word that counts something, of which there are `most`.
abbrev pub up_to : ℕ → ℕ → Result ℕ Refusal
up_to most w = cond (leb w most) (Ok w) (Err Unopened)

-- The lowest untaken page; n if none is left.
unfoldable pub lowest_of : Sizes → ℕ → Result ℕ Refusal
lowest_of s w = cond (leb w s.n) (Ok w) (Err Unopened)

-- One more page, if one is left.
unfoldable pub next_of : Sizes → ℕ → Result Spot Refusal
next_of s untaken = cond (ltb untaken s.n) (Ok (Next untaken)) (Err NoPage)

-- The spot of an entry of n bytes: `current` is the word of its dictionary's current page + 1, `page` that page's word.
unfoldable pub spot_of : Sizes → ℕ → ℕ → ℕ → ℕ → Result Spot Refusal
spot_of s current page untaken n =
    cond (eqb current 0) (next_of s untaken)
    (cond (ltb s.n current) (Err Unopened)
    (cond (ltb (page_size s) (used_of page)) (Err Unopened)
    (cond (leb (used_of page + n) (page_size s)) (Ok (Current (current - 1) (used_of page))) (next_of s untaken))))

-- Dictionary d's current page, if it has one.
abbrev pub current_of : (ℕ → ℕ) → ℕ → ℕ
current_of W d = W (current_at d) - 1

-- The spot in dictionary d, over all words.
unfoldable pub spot_in : Sizes → (ℕ → ℕ) → ℕ → ℕ → ℕ → Result Spot Refusal
spot_in s W d untaken n = spot_of s (W (current_at d)) (W (page_at (current_of W d))) untaken n

-- What holds of a plan's spot, whatever the memory holds; and why there is none.
abbrev pub InPages : Sizes → ℕ → ℕ → Result Spot Refusal → Type 0
InPages s untaken n (Ok (Current page offset)) = (page < s.n) × (offset + n ≤ page_size s)
InPages s untaken n (Ok (Next page)) = (page ≡ untaken) × (page < s.n)
InPages s untaken n (Err why) = ((why ≡ NoPage) × (s.n ≤ untaken)) ⊎ (why ≡ Unopened)

-- The lowest untaken page after an entry at a spot, or after none.
abbrev pub untaken_after : ℕ → Option Spot → ℕ
untaken_after untaken (Some (Current page offset)) = untaken
untaken_after untaken (Some (Next page)) = untaken + 1
untaken_after untaken None = untaken
