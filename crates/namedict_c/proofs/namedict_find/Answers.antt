-- Must-fail edits are refused at these goals. A written answer makes their check short (CONTRIBUTING.md, the edit loop).
use Rattle.std.proofs.Common.{rules}
use Rattle.namedict_c.proofs.namedict_find.Goals as goal

pub returns-clause-value : goal.returns-clause-value
returns-clause-value c = search rules
