-- Must-fail edits are refused at these goals. A written answer makes their check short (CONTRIBUTING.md, the edit loop).
use Rattle.std.proofs.Common.{rules}
use Rattle.ranked_pair_iri_dv_dict.proofs.is_mark.Goals as goal

pub returns-else-byte-eq47 : goal.returns-else-byte-eq47
returns-else-byte-eq47 c = search rules
