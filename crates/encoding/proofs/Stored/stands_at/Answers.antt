-- Must-fail edits are refused at these goals. A written answer makes their check short (CONTRIBUTING.md, the edit loop).
use Rattle.std.proofs.lemmas.Grind.{common_steps}
use Rattle.std.proofs.Common.{arith}
use Rattle.encoding.proofs.Stored.stands_at.Goals as goal

pub returns-then-a-stored : goal.returns-then-a-stored
returns-then-a-stored c = grind (arith, common_steps)
