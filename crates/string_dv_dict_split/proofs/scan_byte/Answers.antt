-- Must-fail edits are refused at these goals. A written answer makes their check short (CONTRIBUTING.md, the edit loop).
use Rattle.std.proofs.Common.{rules}
use Rattle.string_dv_dict_split.proofs.scan_byte.Goals as goal

pub returns-in-Escape-eq92 : goal.returns-in-Escape-eq92
returns-in-Escape-eq92 c = search rules

pub returns-in-Escape-default : goal.returns-in-Escape-default
returns-in-Escape-default c = search rules
