-- `utf8::pass_chars`: the bytes from i to k are passed. The measure is the number of bytes left.
use Rattle.std.proofs.Common.{◌-◌, length}
use Rattle.utf8.specs.Passing.{Passed}
use Rattle.utf8.proofs.pass_chars.Given as goal

abbrev pub invariant-loop-bytes : goal.invariant-loop-bytes
invariant-loop-bytes g l = Passed l.s l.i l.k

abbrev pub decreases-loop-bytes : goal.decreases-loop-bytes
decreases-loop-bytes g l = length l.s - l.k
