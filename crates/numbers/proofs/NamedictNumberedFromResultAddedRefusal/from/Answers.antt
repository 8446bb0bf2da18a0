-- Must-fail edits are refused at these goals. A written answer makes their check short (CONTRIBUTING.md, the edit loop).
use Rattle.std.proofs.Common.{rules}
use Rattle.numbers.proofs.NamedictNumberedFromResultAddedRefusal.from.Goals as goal

pub returns-in-Ok-Known : goal.returns-in-Ok-Known
returns-in-Ok-Known c = search rules
