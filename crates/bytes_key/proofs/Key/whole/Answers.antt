-- Must-fail edits are refused at these goals. A written answer makes their check short (CONTRIBUTING.md, the edit loop).
use Rattle.std.proofs.Common.{rules}
use Rattle.bytes_key.proofs.Key.whole.Goals as goal

pub behind-requires-clause-hashed : goal.behind-requires-clause-hashed
behind-requires-clause-hashed c = search rules

pub returns : goal.returns
returns c = search rules
