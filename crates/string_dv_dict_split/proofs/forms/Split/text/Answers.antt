-- The text's part of either form. Assumes nothing.
use Rattle.std.proofs.Common.{arith}
use Rattle.string_dv_dict_split.proofs.Splits.{short-form-of, long-form-of}
use Rattle.string_dv_dict_split.proofs.PackedParts.{short-text, long-text}
use Rattle.string_dv_dict_split.proofs.forms.Split.text.Goals as goal

pub overflow_add-result : goal.overflow_add-result
overflow_add-result c = omega (arith, (short-form-of c.args.self.now c.in-Short.is).within)

pub slice_bounds-result-count : goal.slice_bounds-result-count
slice_bounds-result-count c = omega (arith, (short-form-of c.args.self.now c.in-Short.is).within)

pub slice_bounds-result-start : goal.slice_bounds-result-start
slice_bounds-result-start c = omega (arith, (short-form-of c.args.self.now c.in-Short.is).within)

pub overflow_add-result-in-Long : goal.overflow_add-result-in-Long
overflow_add-result-in-Long c = omega (arith, (long-form-of c.args.self.now c.in-Long.is).within)

pub slice_bounds-result-count-in-Long : goal.slice_bounds-result-count-in-Long
slice_bounds-result-count-in-Long c = omega (arith, (long-form-of c.args.self.now c.in-Long.is).within)

pub slice_bounds-result-start-in-Long : goal.slice_bounds-result-start-in-Long
slice_bounds-result-start-in-Long c = omega (arith, (long-form-of c.args.self.now c.in-Long.is).within)

pub returns-in-Short : goal.returns-in-Short
returns-in-Short c = short-text (short-form-of c.args.self.now c.in-Short.is)

pub returns-in-Long : goal.returns-in-Long
returns-in-Long c = long-text (long-form-of c.args.self.now c.in-Long.is)
