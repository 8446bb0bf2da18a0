-- Must-fail edits are refused at these goals. A written answer makes their check short (CONTRIBUTING.md, the edit loop).
use Rattle.std.proofs.Common.{rules}
use Rattle.layout.proofs.KindTryFromUsize.try_from.Goals as goal

pub returns-in-1 : goal.returns-in-1
returns-in-1 c = search rules
