-- Each refusal, and the text with the tag behind it. Assumes nothing.
use Rattle.std.proofs.Common.{Option, true, ◌≡◌, ◌+◌, ◌≤◌, Some, Err, Result, IfSome, length, subst, sym, ap, ◌∙◌, arith}
use Rattle.std.proofs.lemmas.Result.{err_from_is_err_and}
use Rattle.slices.specs.Bytes.{Bytes}
use Rattle.layout.specs.Sizes.{packed_limit, name_limit}
use Rattle.refusals.specs.declared.Refusal.{Refusal}
use Rattle.refusals.specs.declared.Refusal.TheVariants.{CutForm}
use Rattle.string_dv_dict.proofs.Laws.{legal-tagged}
use Rattle.string_dv_dict.proofs.Writes.{two-written}
use Rattle.string_dv_dict_split.specs.declared.forms.Split.{Split}
use Rattle.string_dv_dict_split.specs.Forms.{text_in, tag_in, accepted}
use Rattle.string_dv_dict_split.specs.Pieces.{formed}
use Rattle.string_dv_dict_split.specs.Scans.{form_of}
use Rattle.string_dv_dict_split.proofs.Laws.{unpack-pack}
use Rattle.string_dv_dict_split.proofs.PackedParts.{form-made, form-cut}
use Rattle.string_dv_dict_unpack.specs.Answers.{unpacked_as}
use Rattle.string_dv_dict_unpack.proofs.Answers.{unpack-long-form, unpack-cut, unpack-no-room, unpack-done}
use Rattle.string_dv_dict_unpack.proofs.one_string_to_two.Goals as goal

-- A form that was split is accepted, and the split has its bytes.
module _ (form : Bytes) {o : Option Split} (e : formed o ≡ form_of form) where
  taken : {x : Split} → IfSome o (λ x. x.bytes.now ≡ form) → o ≡ Some x → (accepted form ≡ true) × (x.bytes.now ≡ form)
  taken {x} b f = (form-made form x.form (sym e ∙ ap formed f), subst (λ (s : Option Split). IfSome s (λ x. x.bytes.now ≡ form)) f b)

pub returns-then-form-gt-PACKED_LIMIT : goal.returns-then-form-gt-PACKED_LIMIT
unfolding packed_limit
returns-then-form-gt-PACKED_LIMIT c =
    let p = unpack-long-form c.args.form.now c.args.buffer.now c.if-form-gt-PACKED_LIMIT.true in
    (sym p.0, sym p.1)

pub returns-in_err-x : goal.returns-in_err-x
unfolding packed_limit
returns-in_err-x c =
    let e = c.in_err-x.ensures in
    let p = unpack-cut c.args.form.now c.args.buffer.now c.if-form-gt-PACKED_LIMIT.false
    (form-cut _ (sym c.split_packed.ensures.form ∙ ap formed e.ok_part)) in
    let r = err_from_is_err_and c.from_residual.result c.from_residual.ensures.1 in
    let w : ◌≡◌ {A = Result Split Refusal} (Err c.in_err-x.field-0.0) (Err CutForm) = rw e.ok_part at e.value in
    let k : c.in_err-x.field-0.0 ≡ CutForm = cc in
    rw (r.1, r.2, k) (sym p.0, sym p.1)

pub overflow_add-m : goal.overflow_add-m
unfolding name_limit
overflow_add-m c =
    let form = c.args.form.now in
    let l = taken form c.split_packed.ensures.form c.split_packed.ensures.bytes c.in_ok-x.ensures.ok_part in
    let t = rw l.1 at c.text-text.ensures in
    let n = rw l.1 at c.tag_length-tag.ensures in
    omega (arith, ap length t, n, (legal-tagged _ _ (unpack-pack form l.0).0).size)

pub returns-then-buffer-m : goal.returns-then-buffer-m
unfolding packed_limit
returns-then-buffer-m c =
    let form = c.args.form.now in
    let l = taken form c.split_packed.ensures.form c.split_packed.ensures.bytes c.in_ok-x.ensures.ok_part in
    let t = rw l.1 at c.text-text.ensures in
    let n = rw l.1 at c.tag_length-tag.ensures in
    let p = unpack-no-room form c.args.buffer.now c.if-form-gt-PACKED_LIMIT.false l.0 (omega (arith, ap length t)) in
    (sym p.0, sym p.1)

pub returns : goal.returns
unfolding packed_limit
returns c =
    let form = c.args.form.now in
    let b = c.args.buffer.now in
    let l = taken form c.split_packed.ensures.form c.split_packed.ensures.bytes c.in_ok-x.ensures.ok_part in
    let t : c.text-text.result.now ≡ text_in form = rw l.1 at c.text-text.ensures in
    let n : c.tag_length-tag.result ≡ length (tag_in form) = rw l.1 at c.tag_length-tag.ensures in
    let room : length (text_in form) + length (tag_in form) ≤ length b = omega (arith, ap length t) in
    let p = unpack-done form b c.if-form-gt-PACKED_LIMIT.false l.0 room in (
      ap (λ (x : Bytes). unpacked_as (length x) c.tag_length-tag.result) t
          ∙ ap (unpacked_as (length (text_in form))) n
          ∙ sym p.0,
      two-written (text_in form) (tag_in form) b _ _ _ room (ap length t) (rw (c.raw.ensures.stored, t) at c.write.ensures) (rw (c.tag.ensures.bytes, l.1) at c.write_piece.ensures) ∙ sym p.1,
    )
