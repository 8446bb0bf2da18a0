-- Must-fail edits are refused at these goals. A written answer makes their check short (CONTRIBUTING.md, the edit loop).
use Rattle.std.proofs.Common.{rules}
use Rattle.encoding.proofs.Form.end.Goals as goal

pub returns-in-Long : goal.returns-in-Long
returns-in-Long c = search rules
