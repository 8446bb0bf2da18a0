-- Must-fail edits are refused at these goals. A written answer makes their check short (CONTRIBUTING.md, the edit loop).
use Rattle.std.proofs.Common.{rules}
use Rattle.fnv.proofs.wrapping_mul.Goals as goal

pub returns : goal.returns
returns c = search rules
