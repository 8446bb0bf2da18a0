-- A short form's tag as it stands there, and a long form's with its escapes undone. Assumes nothing.
use Rattle.std.proofs.Common.{arith}
use Rattle.string_dv_dict_split.proofs.Splits.{short-form-of, long-form-of}
use Rattle.string_dv_dict_split.proofs.PackedParts.{short-tag, short-stands, long-tag, long-stands}
use Rattle.string_dv_dict_split.proofs.forms.Split.tag.Goals as goal

pub overflow_add-result : goal.overflow_add-result
overflow_add-result c = omega (arith, (short-form-of c.args.self.now c.in-Short.is).within)

pub slice_bounds-result-end : goal.slice_bounds-result-end
slice_bounds-result-end c = omega (arith, (short-form-of c.args.self.now c.in-Short.is).within)

pub overflow_add-result-in-Long : goal.overflow_add-result-in-Long
overflow_add-result-in-Long c = omega (arith, (long-form-of c.args.self.now c.in-Long.is).within)

pub slice_bounds-result-end-in-Long : goal.slice_bounds-result-end-in-Long
slice_bounds-result-end-in-Long c = omega (arith, (long-form-of c.args.self.now c.in-Long.is).within)

pub returns-in-Short-clause-bytes : goal.returns-in-Short-clause-bytes
returns-in-Short-clause-bytes c = short-tag (short-form-of c.args.self.now c.in-Short.is)

pub returns-in-Short-clause-stands : goal.returns-in-Short-clause-stands
returns-in-Short-clause-stands c = short-stands (short-form-of c.args.self.now c.in-Short.is)

pub returns-in-Long-clause-bytes : goal.returns-in-Long-clause-bytes
returns-in-Long-clause-bytes c = long-tag (long-form-of c.args.self.now c.in-Long.is)

pub returns-in-Long-clause-stands : goal.returns-in-Long-clause-stands
returns-in-Long-clause-stands c = long-stands (long-form-of c.args.self.now c.in-Long.is)
