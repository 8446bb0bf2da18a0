-- The sizes of a dictionary's memory, their ranges, and how long its names may be, by document 01. Assumes nothing.
use Rattle.std.specs.Prelude.{ℕ, ◌+◌, ◌*◌, ◌^◌, ◌≤◌, ◌≡◌, refl, Bool, ◌&&◌, cond, Option, Some, None}
pub use Rattle.slices.specs.Ranges.{within}
use Rattle.layout.specs.declared.Sizes.{Sizes}

-- Page width p, pages n, list length e, block width w, blocks b.
unfoldable pub in_range : Sizes → Bool
in_range s = within 13 20 s.p && (within 1 1024 s.n && (within 1 1048576 s.e && (within 4 24 s.w && within 1 4096 s.b)))

-- The same ranges as facts.
pub record InRange (s : Sizes) : Type 0 where
  pub p : (13 ≤ s.p) × (s.p ≤ 20)
  pub n : (1 ≤ s.n) × (s.n ≤ 1024)
  pub e : (1 ≤ s.e) × (s.e ≤ 1048576)
  pub w : (4 ≤ s.w) × (s.w ≤ 24)
  pub b : (1 ≤ s.b) × (s.b ≤ 4096)

unfoldable pub made : Sizes → Option Sizes
made s = cond (in_range s) (Some s) None

-- The most bytes of a name, both parts together, and of a packed form.
unfoldable pub name_limit : ℕ
name_limit = 4000

unfoldable pub packed_limit : ℕ
packed_limit = 8002

-- A packed form is longest if every byte of the longest name is an escaped byte of the tag.
pub packed-from-name : packed_limit ≡ 2 + 2 * name_limit
unfolding name_limit packed_limit
packed-from-name = refl

-- The most bytes of a name in a dictionary of these sizes.
unfoldable pub limit : Sizes → ℕ
limit s = name_limit

-- How many kinds and dictionaries there are.
abbrev pub kinds : ℕ
kinds = 4

abbrev pub dictionaries : ℕ
dictionaries = 6

-- How many bytes `pages` and `lists` need.
unfoldable pub page_size : Sizes → ℕ
page_size s = 2 ^ s.p

unfoldable pub page_bytes : Sizes → ℕ
page_bytes s = s.n * page_size s

-- Three words for each entry number of a dictionary, one for each block of a kind, one for each global block.
unfoldable pub list_bytes : Sizes → ℕ
list_bytes s = 8 * (64 + s.n + 3 * dictionaries * s.e + (kinds + 1) * s.b)

-- As document 01 says it.
pub list-bytes-said : (s : Sizes) → list_bytes s ≡ 8 * (64 + s.n + 18 * s.e + 5 * s.b)
unfolding list_bytes
list-bytes-said s = refl
