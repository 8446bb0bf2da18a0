-- FNV-1a of 32 bits, by document 01: start 2166136261, prime 16777619, wrapping. Assumes nothing.
use Rattle.std.specs.Prelude.{[], ◌∷◌, ℕ, ◌*◌, ◌%◌, ◌^◌}
use Rattle.std.specs.Int.Bits.{bit_or, bit_xor}
use Rattle.slices.specs.Bytes.{Bytes}

-- The hash h, extended by the byte b.
unfoldable pub fnv_step : ℕ → ℕ → ℕ
fnv_step h b = bit_xor h b * 16777619 % 2 ^ 32

-- The hash h, extended by the bytes, first to last.
unfoldable pub fnv_from : ℕ → Bytes → ℕ
fnv_from h [] = h
fnv_from h (b ∷ s) = fnv_from (fnv_step h b) s

unfoldable pub fnv_of : Bytes → ℕ
fnv_of s = fnv_from 2166136261 s

-- The bitwise or of b and all bytes.
unfoldable pub bits_from : ℕ → Bytes → ℕ
bits_from b [] = b
bits_from b (x ∷ s) = bits_from (bit_or b x) s
