-- Each turn takes one byte of the text, or more.
use Rattle.std.proofs.Common.{length}
use Rattle.calls.proofs.script.part.Given as goal

abbrev pub decreases-loop-first : goal.decreases-loop-first
decreases-loop-first l = length l.rest
