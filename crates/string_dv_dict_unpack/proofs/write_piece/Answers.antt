-- Must-fail edits are refused at these goals. A written answer makes their check short (CONTRIBUTING.md, the edit loop).
use Rattle.std.proofs.Common.{rules}
use Rattle.string_dv_dict_unpack.proofs.write_piece.Goals as goal

pub returns-in-Escaped : goal.returns-in-Escaped
returns-in-Escaped c = search rules
