-- The shift does not lose its bit.
use Rattle.std.proofs.Common.{◌*◌, ◌^◌, ◌<◌, ◌∙◌, arith}
use native.Mathlib.Nat.{mod-eq_of_lt, one-mul}
use lib.Pow.{pow-lt}
use Rattle.layout.specs.Sizes.{page_size}
use Rattle.layout.proofs.lent.Layout.page_size.Goals as goal

pub returns : goal.returns
unfolding page_size
returns c =
    let p = c.args.self.now.sizes.p in
    let l : 1 * 2 ^ p < 2 ^ 64 = rw (one-mul (2 ^ p)) (pow-lt {j = 64} (omega arith)) in
    mod-eq_of_lt l ∙ one-mul (2 ^ p)
