-- Must-fail edits are refused at these goals. A written answer makes their check short (CONTRIBUTING.md, the edit loop).
use Rattle.layout.specs.Sizes.{name_limit}
use Rattle.string_dv_dict.specs.Packed.{pair_refusal}
use Rattle.std.proofs.Common.{rules}
use Rattle.string_dv_dict.proofs.check_pair.Goals as goal

pub returns-then-not-is_text : goal.returns-then-not-is_text
unfolding pair_refusal name_limit
returns-then-not-is_text c = search rules

pub returns-then-not-is_text-2 : goal.returns-then-not-is_text-2
unfolding pair_refusal name_limit
returns-then-not-is_text-2 c = search rules

pub returns-then-text-tag-gt-NAME_LIMIT : goal.returns-then-text-tag-gt-NAME_LIMIT
unfolding pair_refusal name_limit
returns-then-text-tag-gt-NAME_LIMIT c = search rules
