-- Must-fail edits are refused at these goals. A written answer makes their check short (CONTRIBUTING.md, the edit loop).
use Rattle.std.proofs.Common.{rules}
use Rattle.commit.proofs.known.Goals as goal

pub returns : goal.returns
returns c = search rules
