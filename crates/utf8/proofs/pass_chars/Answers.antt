-- `utf8::pass_chars` meets its contract: one character more is passed.
use Rattle.std.proofs.Common.{◌+◌, refl, subst}
use Rattle.slices.specs.Bytes.{Bytes}
use Rattle.utf8.specs.Passing.{IsChar}
use Rattle.utf8.proofs.Ascii.{pass_on}
use Rattle.utf8.proofs.Runs.{chunk-at}
use Rattle.utf8.proofs.pass_chars.Goals as goal

pub loop-bytes-preserved : goal.loop-bytes-preserved
loop-bytes-preserved g c =
    let a = c.args in
    let s = a.s.now in
    let k = c.loop-bytes.k in
    let h = chunk-at g.row.N s c.in-Some.bytes.now k c.loop-bytes.invariant.1 c.in-Some.ensures.cases in
    pass_on s a.i k (k + g.row.N) c.loop-bytes.invariant
    (c.requires.passes k h.0 (subst (λ (b : Bytes). IsChar a.lo a.hi b) h.1 (c.if-not-is_char.ensures.0 refl)))
