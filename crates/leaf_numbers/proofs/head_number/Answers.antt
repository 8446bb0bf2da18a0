-- Must-fail edits are refused at these goals. A written answer makes their check short (CONTRIBUTING.md, the edit loop).
use Rattle.std.proofs.Common.{rules}
use Rattle.leaf_numbers.proofs.head_number.Goals as goal

pub returns : goal.returns
returns c = search rules
