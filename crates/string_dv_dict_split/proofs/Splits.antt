-- What is known of the form of a split. Assumes nothing.
use mathlib.Core.Path.{◌≡◌, sym, ap, ◌∙◌}
use mathlib.Core.Logic.{◌⊎◌, inl, inr}
use Prim.Native.Nat.{ℕ}
use lib.ListN.{length}
use Rattle.std.specs.Prelude.{Some}
use Rattle.string_dv_dict_split.specs.declared.Form.{Form}
use Rattle.string_dv_dict_split.specs.declared.Form.TheVariants.{Short, Long}
use Rattle.string_dv_dict_split.specs.declared.forms.Split.{Split}
use Rattle.string_dv_dict_split.specs.Forms.{tag_in}
use Rattle.string_dv_dict_split.specs.Scans.{ShortForm, LongForm}
use Rattle.string_dv_dict_split.proofs.PackedParts.{split_parts, short-length}

pub short-form-of : (x : Split) {n : ℕ} → x.form ≡ Short n → ShortForm x.bytes.now n
short-form-of x {n} e = split_parts x.bytes.now (Some (Short n)) (x.splits ∙ ap (λ (f : Form). Some f) e)

pub long-form-of : (x : Split) {end n : ℕ} → x.form ≡ Long end n → LongForm x.bytes.now end n
long-form-of x {end} {n} e = split_parts x.bytes.now (Some (Long end n)) (x.splits ∙ ap (λ (f : Form). Some f) e)

-- Either form counts its tag.
pub tag_counted : (x : Split) {n : ℕ} → (x.form ≡ Short n) ⊎ ((end : ℕ) × x.form ≡ Long end n) → n ≡ length (tag_in x.bytes.now)
tag_counted x (inl e) = short-length (short-form-of x e)
tag_counted x (inr e) = sym (long-form-of x e.1).tag_length
