-- Must-fail edits are refused at these goals. A written answer makes their check short (CONTRIBUTING.md, the edit loop).
use Rattle.std.proofs.Common.{rules}
use Rattle.encoding.proofs.Form.of.Goals as goal

pub returns-then-tag-gt-SHORT : goal.returns-then-tag-gt-SHORT
returns-then-tag-gt-SHORT c = search rules
