-- Each turn takes one byte from the end.
use Rattle.std.proofs.Common.{length}
use Rattle.checklist.proofs.input.trimmed.Given as goal

abbrev pub decreases-loop-front : goal.decreases-loop-front
decreases-loop-front l = length l.rest
