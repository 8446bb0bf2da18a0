-- Each command leaves fewer words.
use Rattle.std.proofs.Common.{length}
use Rattle.checklist.proofs.command.Checklist.all.Given as goal

abbrev pub decreases-loop-name : goal.decreases-loop-name
decreases-loop-name g l = length l.rest
