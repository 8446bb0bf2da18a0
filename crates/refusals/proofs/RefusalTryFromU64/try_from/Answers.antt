-- Must-fail edits are refused at these goals. A written answer makes their check short (CONTRIBUTING.md, the edit loop).
use Rattle.std.proofs.Common.{rules}
use Rattle.refusals.proofs.RefusalTryFromU64.try_from.Goals as goal

pub returns-in_default : goal.returns-in_default
returns-in_default c = search rules
