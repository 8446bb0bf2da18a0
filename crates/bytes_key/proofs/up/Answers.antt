-- Must-fail edits are refused at these goals. A written answer makes their check short (CONTRIBUTING.md, the edit loop).
use Rattle.std.proofs.Common.{rules}
use Rattle.bytes_key.proofs.up.Goals as goal

pub returns-then-k-m : goal.returns-then-k-m
returns-then-k-m c = search rules
