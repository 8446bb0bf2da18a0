-- The fields of `lists` lie inside it and apart from one another; numbers packed into a word come out again. Assumes nothing.
use Prim.Native.Nat.{ℕ, suc, ◌+◌, ◌*◌, ◌≤◌, ◌<◌}
use mathlib.Core.Path.{◌≡◌, refl}
use native.Mathlib.Omega.{arith}
use native.Mathlib.Nat.{mul-le-mul_right, suc-mul}
use Rattle.layout.specs.declared.Sizes.{Sizes}
use Rattle.layout.specs.Sizes.{kinds, dictionaries, list_bytes}
use Rattle.layout.specs.Fields.{dict_at, blocks_at, page_word, owner_of, used_of, position_of, entry_word, page_of, offset_of, size_of}

-- ---- cells of equal size

cell_below : (s d d' : ℕ) → d < d' → d * s + s ≤ d' * s
cell_below s d d' l =
    let a : suc d * s ≤ d' * s = mul-le-mul_right s l in
    let b : suc d * s ≡ d * s + s = suc-mul d s in
    omega arith

-- ---- dictionaries

-- One dictionary's words end where the next one's start, or before.
pub dict-below : (s : Sizes) (d d' : ℕ) → d < d' → dict_at s d + 3 * s.e ≤ dict_at s d'
unfolding dict_at
dict-below s d d' l = omega (arith, cell_below (3 * s.e) d d' l)

pub dict-from : (s : Sizes) (d : ℕ) → 64 + s.n ≤ dict_at s d
unfolding dict_at
dict-from s d = omega arith

-- Behind all of them.
pub dict-end : (s : Sizes) → dict_at s dictionaries ≡ 64 + s.n + 3 * dictionaries * s.e
unfolding dict_at
dict-end s = omega arith

pub dict-within : (s : Sizes) (d : ℕ) → d < dictionaries → dict_at s d + 3 * s.e ≤ 64 + s.n + 3 * dictionaries * s.e
dict-within s d l = omega (arith, dict-below s d dictionaries l, dict-end s)

-- ---- blocks

pub blocks-below : (s : Sizes) (k k' : ℕ) → k < k' → blocks_at s k + s.b ≤ blocks_at s k'
unfolding blocks_at
blocks-below s k k' l = omega (arith, cell_below s.b k k' l)

pub blocks_from : (s : Sizes) (k : ℕ) → 64 + s.n + 3 * dictionaries * s.e ≤ blocks_at s k
unfolding blocks_at
blocks_from s k = omega (arith, dict-end s)

pub blocks_end : (s : Sizes) → blocks_at s kinds ≡ 64 + s.n + 3 * dictionaries * s.e + kinds * s.b
unfolding blocks_at
blocks_end s = omega (arith, dict-end s)

-- ---- lists

pub list-bytes : (s : Sizes) → list_bytes s ≡ 8 * (64 + s.n + 3 * dictionaries * s.e + (kinds + 1) * s.b)
unfolding list_bytes
list-bytes s = refl

-- ---- numbers in one word

pub page-word : (o u q : ℕ) → o < 16 → u < 2097152 → (owner_of (page_word o u q) ≡ o) × (used_of (page_word o u q) ≡ u) × (position_of (page_word o u q) ≡ q)
page-word o u q a b = (omega arith, omega arith, omega arith)

pub entry-word : (p o n : ℕ) → p < 1024 → o < 2097152 → (page_of (entry_word p o n) ≡ p) × (offset_of (entry_word p o n) ≡ o) × (size_of (entry_word p o n) ≡ n)
entry-word p o n a b = (omega arith, omega arith, omega arith)
