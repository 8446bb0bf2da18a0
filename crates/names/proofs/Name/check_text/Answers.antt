-- Must-fail edits are refused at these goals. A written answer makes their check short (CONTRIBUTING.md, the edit loop).
use Rattle.model.specs.Steps.{text_refusal}
use Rattle.std.proofs.Common.{rules}
use Rattle.names.proofs.Name.check_text.Goals as goal

pub returns-then-is_empty : goal.returns-then-is_empty
unfolding text_refusal
returns-then-is_empty c = search rules

pub returns : goal.returns
unfolding text_refusal
returns c = search rules
