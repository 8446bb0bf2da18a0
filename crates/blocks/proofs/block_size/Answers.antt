-- The shift does not lose its bit.
use Rattle.std.proofs.Common.{◌*◌, ◌%◌, ◌^◌, ◌<◌, ◌≤◌, ◌≡◌, ◌∙◌, arith}
use native.Mathlib.Nat.{mod-eq_of_lt, one-mul}
use lib.Pow.{pow_pos, pow_mono, pow-lt}
use Rattle.blocks.proofs.block_size.Goals as goal

pub returns : goal.returns
returns c =
    let w = c.args.layout.now.sizes.w in
    let r = c.args.layout.now.in_range.w in
    let l : 1 * 2 ^ w < 2 ^ 64 = rw (one-mul (2 ^ w)) (pow-lt {j = 64} (omega (arith, r))) in
    let e : (1 * 2 ^ w) % 2 ^ 64 ≡ 2 ^ w = mod-eq_of_lt l ∙ one-mul (2 ^ w) in
    let m : 2 ^ w ≤ 16777216 = pow_mono {i = w} {j = 24} (omega (arith, r)) in
    (e, rw e (pow_pos w), rw e m)
