-- The form of the split, if packing makes it. A form that was not split is not accepted. Assumes nothing.
use Rattle.std.proofs.Common.{None, sym, ap, ◌∙◌}
use Rattle.slices.proofs.Tests.{clash}
use Rattle.string_dv_dict_split.specs.Forms.{accepted}
use Rattle.string_dv_dict_split.proofs.PackedParts.{split_parts, taken-form, cut-form}
use Rattle.string_dv_dict_split.proofs.split_packed.Goals as goal

pub returns-in_err-x-clause-form : goal.returns-in_err-x-clause-form
returns-in_err-x-clause-form c =
    rw c.from_residual.ensures (cut-form _ (λ p. clash p (split_parts _ None (sym c.in_err-x.ensures.form))))

pub returns-then-is_packed-clause-form : goal.returns-then-is_packed-clause-form
returns-then-is_packed-clause-form c =
    c.in_ok-x.ensures.form ∙ taken-form _ (ap accepted (sym c.in_ok-x.ensures.bytes) ∙ sym c.if-is_packed.ensures)

pub returns-else-is_packed-clause-form : goal.returns-else-is_packed-clause-form
returns-else-is_packed-clause-form c =
    cut-form _ (λ p. clash p (ap accepted (sym c.in_ok-x.ensures.bytes) ∙ sym c.if-is_packed.ensures))
