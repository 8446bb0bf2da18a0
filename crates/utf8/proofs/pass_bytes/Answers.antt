-- `utf8::pass_bytes` meets its contract: one ASCII byte more is passed.
use Rattle.std.proofs.Common.{sym, arith}
use borrow.Author.Tests.{ltb-true}
use Rattle.utf8.proofs.Ascii.{pass_on, pass-one}
use Rattle.utf8.proofs.pass_bytes.Goals as goal

pub loop-k-preserved : goal.loop-k-preserved
loop-k-preserved c =
    let h = c.if-not-is_ascii.ensures in
    pass_on _ _ _ _ c.loop-k.invariant (pass-one c.args.s.now c.loop-k.k (omega arith) (ltb-true _ 0x80 (sym h)))
