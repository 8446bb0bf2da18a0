-- When a dictionary's memory holds given entries, as facts that a program could check. Words, quads and page bytes are functions of their index:
-- memory in which these functions agree holds the same entries. Assumes nothing.
use Rattle.std.specs.Prelude.{◌≡◌, ◌≢◌, ℕ, ◌+◌, ◌*◌, ◌≤◌, ◌<◌, length, get_or}
use Rattle.std.proofs.Math.Option.{Option, none, some}
use Rattle.slices.specs.Bytes.{Bytes}
use Rattle.fnv.specs.Fnv.{fnv_of}
use Rattle.layout.specs.declared.Sizes.{Sizes}
use Rattle.layout.specs.Sizes.{page_size}
use Rattle.layout.specs.Fields.{page_of, offset_of, size_of, place_word}
use Rattle.bytes_index.specs.Place.{place_after}
use Rattle.bytes_index.specs.Filled.{filled}

-- The bytes of an entry by its number; none if the number is not in use.
abbrev pub Entries : Type 0
Entries = ℕ → Option Bytes

abbrev pub used : Option Bytes → ℕ
used none = 0
used (some key) = 1

-- Where in the pages an entry word's bytes start.
abbrev pub address_of : Sizes → ℕ → ℕ
address_of s w = page_of w * page_size s + offset_of w

-- The entry word w stands for the bytes of key, which lie in one page.
pub record Addresses (s : Sizes) (B : ℕ → ℕ) (w : ℕ) (key : Bytes) : Type 0 where
  pub paged : page_of w < s.n
  pub inside : offset_of w + size_of w ≤ page_size s
  pub sized : size_of w ≡ length key
  pub bytes : (k : ℕ) → k < length key → B (address_of s w + k) ≡ get_or key k 0

-- The search from h meets entry i after `step` steps, and no place before it is empty. Q gives the dictionary's index places. A place holds its
-- entry and the top bits of the hash of the entry's key.
pub record Met (Q : ℕ → ℕ) (m h i : ℕ) : Type 0 where
  pub step : ℕ
  pub near : step < m
  pub there : Q (place_after m h step) ≡ place_word i h
  pub full : (k : ℕ) → k < step → Q (place_after m h k) ≢ 0

-- The place j is the first empty one from h.
pub record FreeAt (Q : ℕ → ℕ) (m h j : ℕ) : Type 0 where
  pub step : ℕ
  pub near : step < m
  pub here : place_after m h step ≡ j
  pub empty : Q j ≡ 0
  pub full : (k : ℕ) → k < step → Q (place_after m h k) ≢ 0

-- The memory holds these entries. B gives the pages' bytes, W the e entry words, Q the 2e index places.
pub record Holds (s : Sizes) (B W Q : ℕ → ℕ) (es : Entries) : Type 0 where
  pub entry : (i : ℕ) (key : Bytes) → es i ≡ some key → (i < s.e) × Addresses s B (W i) key
  pub names : (j : ℕ) → j < 2 * s.e → Q j ≢ 0 → (i : ℕ) × (key : Bytes) × (es i ≡ some key) × (Q j ≡ place_word i (fnv_of key))
  pub met : (i : ℕ) (key : Bytes) → es i ≡ some key → Met Q (2 * s.e) (fnv_of key) i
  pub count : filled Q (2 * s.e) ≡ filled (λ i. used (es i)) s.e
  pub apart : (i j : ℕ) (key : Bytes) → es i ≡ some key → es j ≡ some key → i ≡ j

-- No entry has the key, and the search for it ends at place j.
pub record Misses (s : Sizes) (Q : ℕ → ℕ) (es : Entries) (key : Bytes) (j : ℕ) : Type 0 where
  pub absent : (i : ℕ) → es i ≡ some key → ⊥
  pub free : FreeAt Q (2 * s.e) (fnv_of key) j
