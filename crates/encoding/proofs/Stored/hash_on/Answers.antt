-- Must-fail edits are refused at these goals. A written answer makes their check short (CONTRIBUTING.md, the edit loop).
use Rattle.fnv.specs.Fnv.{fnv_from}
use Rattle.std.proofs.Common.{rules}
use Rattle.encoding.proofs.Stored.hash_on.Goals as goal

pub returns-in-Two : goal.returns-in-Two
unfolding fnv_from
returns-in-Two c = search rules
