-- Must-fail edits are refused at these goals. A written answer makes their check short (CONTRIBUTING.md, the edit loop).
use Rattle.std.proofs.Common.{rules}
use Rattle.encoding.proofs.Stored.width.Goals as goal

pub returns-in-Two : goal.returns-in-Two
returns-in-Two c = search rules
