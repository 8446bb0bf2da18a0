-- Must-fail edits are refused at these goals. A written answer makes their check short (CONTRIBUTING.md, the edit loop).
use Rattle.std.proofs.Common.{rules}
use Rattle.names.proofs.are_text.Goals as goal

pub returns-then-is_text : goal.returns-then-is_text
returns-then-is_text c = search rules
