-- Must-fail edits are refused at these goals. A written answer makes their check short (CONTRIBUTING.md, the edit loop).
use Rattle.std.proofs.Common.{rules}
use Rattle.kind_table.proofs.Row.of.Goals as goal

pub returns-in-Tagged : goal.returns-in-Tagged
returns-in-Tagged c = search rules
