-- Must-fail edits are refused at these goals. A written answer makes their check short (CONTRIBUTING.md, the edit loop).
use Rattle.std.proofs.Common.{rules}
use Rattle.search.proofs.find_key.Goals as goal

pub returns : goal.returns
returns c = search rules
