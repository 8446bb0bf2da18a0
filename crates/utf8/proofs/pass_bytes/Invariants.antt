-- `utf8::pass_bytes`: the bytes from i to k are passed.
use Rattle.utf8.specs.Passing.{Passed}
use Rattle.utf8.proofs.pass_bytes.Given as goal

abbrev pub invariant-loop-k : goal.invariant-loop-k
invariant-loop-k l = Passed l.s l.i l.k
