-- `utf8::pass_words`: the bytes from i to k are passed. The measure is the number of bytes left.
use Rattle.std.proofs.Common.{◌-◌, length}
use Rattle.utf8.specs.Passing.{Passed}
use Rattle.utf8.proofs.pass_words.Given as goal

abbrev pub invariant-loop-bytes : goal.invariant-loop-bytes
invariant-loop-bytes l = Passed l.s l.i l.k

abbrev pub decreases-loop-bytes : goal.decreases-loop-bytes
decreases-loop-bytes l = length l.s - l.k
