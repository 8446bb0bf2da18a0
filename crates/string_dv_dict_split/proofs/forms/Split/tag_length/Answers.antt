-- The length of the tag, in either form. Assumes nothing.
use Rattle.string_dv_dict_split.proofs.Splits.{tag_counted}
use Rattle.string_dv_dict_split.proofs.forms.Split.tag_length.Goals as goal

pub returns-in-Short : goal.returns-in-Short
returns-in-Short c = tag_counted c.args.self.now c.in-Short.is

pub returns-in-Short-2 : goal.returns-in-Short-2
returns-in-Short-2 c = tag_counted c.args.self.now c.in-Short.is
