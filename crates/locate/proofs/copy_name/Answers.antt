-- Must-fail edits are refused at these goals. A written answer makes their check short (CONTRIBUTING.md, the edit loop).
use Rattle.std.proofs.lemmas.Grind.{common_steps}
use Rattle.std.proofs.Common.{arith}
use Rattle.locate.proofs.copy_name.Goals as goal

pub write_piece-requires : goal.write_piece-requires
write_piece-requires c = grind (arith, common_steps)

pub returns : goal.returns
returns c = grind (arith, common_steps)
