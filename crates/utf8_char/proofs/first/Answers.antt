-- Must-fail edits are refused at these goals. A written answer makes their check short (CONTRIBUTING.md, the edit loop).
use Rattle.utf8_char.specs.Text.{first_of}
use Rattle.std.proofs.Common.{rules}
use Rattle.utf8_char.proofs.first.Goals as goal

pub returns-in-244 : goal.returns-in-244
unfolding first_of
returns-in-244 c = search rules

pub returns-in-237 : goal.returns-in-237
unfolding first_of
returns-in-237 c = search rules
