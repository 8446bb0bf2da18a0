-- The hash of a concatenation, a byte at a time, and its range. Assumes nothing.
use mathlib.Core.Path.{◌≡◌, refl}
use mathlib.Core.List.{[], ◌∷◌, ◌++◌}
use Prim.Native.Nat.{ℕ, ◌*◌, ◌%◌, ◌^◌, ◌<◌, ◌≤◌}
use lib.Bits.{bit_or, bit_xor, and_le_l, and_le_r, or_add_and}
use native.Mathlib.Omega.{arith}
use Rattle.slices.specs.Bytes.{Bytes}
use Rattle.fnv.specs.Fnv.{fnv_step, fnv_from, fnv_of, bits_from}

-- One list after the other: the hash of the first is taken on over the second.
pub fnv-append : (a b : Bytes) (h : ℕ) → fnv_from h (a ++ b) ≡ fnv_from (fnv_from h a) b
unfolding fnv_from
fnv-append [] b h = refl
fnv-append (x ∷ a) b h = fnv-append a b (fnv_step h x)

pub fnv-of-append : (a b : Bytes) → fnv_of (a ++ b) ≡ fnv_from (fnv_of a) b
unfolding fnv_of
fnv-of-append a b = fnv-append a b 2166136261

-- The hash is a number of 32 bits.
pub fnv-from-lt : (s : Bytes) (h : ℕ) → h < 2 ^ 32 → fnv_from h s < 2 ^ 32
unfolding fnv_from fnv_step
fnv-from-lt [] h l = l
fnv-from-lt (b ∷ s) h l = fnv-from-lt s (bit_xor h b * 16777619 % 2 ^ 32) (omega arith)

pub fnv-lt : (s : Bytes) → fnv_of s < 2 ^ 32
unfolding fnv_of
fnv-lt s = fnv-from-lt s 2166136261 (omega arith)

-- ---- the bits

pub bits-append : (a b : Bytes) (x : ℕ) → bits_from x (a ++ b) ≡ bits_from (bits_from x a) b
unfolding bits_from
bits-append [] b x = refl
bits-append (y ∷ a) b x = bits-append a b (bit_or x y)

or-least : (a b : ℕ) → (a ≤ bit_or a b) × (b ≤ bit_or a b)
or-least a b = (omega (arith, or_add_and a b, and_le_r a b), omega (arith, or_add_and a b, and_le_l a b))

-- No bit is lost.
pub bits-least : (s : Bytes) (b : ℕ) → b ≤ bits_from b s
unfolding bits_from
bits-least [] b = omega arith
bits-least (x ∷ s) b = omega (arith, bits-least s (bit_or b x), or-least b x)

-- Nor one of a byte.
pub bits-first : (x : ℕ) (s : Bytes) (b : ℕ) → x ≤ bits_from b (x ∷ s)
unfolding bits_from
bits-first x s b = omega (arith, bits-least s (bit_or b x), or-least b x)
