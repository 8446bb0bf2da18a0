-- `ranked_pair_dictionary::read_frequent_id` meets its contract: the first byte tells how many follow, and each is read in its turn.
use Rattle.std.proofs.Common.{ℕ, ◌*◌, ◌^◌, ◌<◌, ◌≤◌, arith, rules}
use native.Mathlib.Nat.{pow-le-pow_right}
use Rattle.ranked_pair_dictionary.proofs.read_frequent_id.Goals as goal

-- Before the last byte there is room for it.
low : (d v : ℕ) → d ≤ 2 → v < 64 * 256 ^ d → v < 4194304
low d v h l = let p : 256 ^ d ≤ 256 ^ 2 = pow-le-pow_right (omega arith) h in omega arith

pub overflow_mul-value : goal.overflow_mul-value
overflow_mul-value c =
    let l = c.loop-byte in
    omega (arith, low l.byte-index l.value (omega arith) l.invariant.low)

pub slice_bounds-byte-items-end : goal.slice_bounds-byte-items-end
slice_bounds-byte-items-end c = search rules
