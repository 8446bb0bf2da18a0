-- Each refusal, and the form in its two parts. Assumes nothing.
use Rattle.std.proofs.Common.{◌≡◌, ◌+◌, ◌≤◌, length, length-take, length-drop, sym, ap, ◌∙◌, arith}
use Rattle.std.proofs.Math.Option.{none}
use Rattle.std.proofs.lemmas.Result.{err_from_is_err_and}
use Rattle.layout.specs.Sizes.{packed_limit}
use Rattle.slices.specs.Bytes.{Bytes}
use Rattle.encoding.specs.Encoding.{tag_bytes}
use Rattle.string_dv_dict.specs.Packed.{pair_refusal}
use Rattle.string_dv_dict.proofs.Laws.{legal-tagged, length-packed}
use Rattle.string_dv_dict.proofs.Keys.{length-tagged-key, placed-key}
use Rattle.refusals.proofs.Told.{told-legal, told-illegal}
use Rattle.string_dv_dict.proofs.Answers.{pack-refused, pack-no-room, pack-done}
use Rattle.string_dv_dict.proofs.two_strings_to_one.Goals as goal

-- A legal text and tag has a form within the limit.
within : (text tag : Bytes) → pair_refusal text tag ≡ none → length (tag_bytes tag) + length text ≤ packed_limit
within text tag e = rw (length-tagged-key text tag) (length-packed text tag (legal-tagged text tag e))

pub returns-in_err-check_pair : goal.returns-in_err-check_pair
returns-in_err-check_pair c =
    let z = c.args in
    let e = told-illegal _ _ (sym c.in_err-check_pair.ensures) in
    let p = pack-refused z.text.now z.tag.now z.buffer.now _ e in
    let r = err_from_is_err_and c.from_residual.result c.from_residual.ensures.1 in
    rw (r.1, r.2) (sym p.0, sym p.1)

pub measure-m-requires : goal.measure-m-requires
unfolding packed_limit
measure-m-requires c = omega (arith, ap length c.tag-front.ensures.stored, within _ _ (told-legal _ (sym c.in_ok-check_pair.ensures)))

pub overflow_add-n : goal.overflow_add-n
unfolding packed_limit
overflow_add-n c =
    omega (arith, c.measure-m.ensures, ap length c.tag-front.ensures.stored, within _ _ (told-legal _ (sym c.in_ok-check_pair.ensures)))

pub returns-then-buffer-n : goal.returns-then-buffer-n
returns-then-buffer-n c =
    let z = c.args in
    let m : c.measure-m.result ≡ length (tag_bytes z.tag.now) = c.measure-m.ensures ∙ ap length c.tag-front.ensures.stored in
    let p = pack-no-room z.text.now z.tag.now z.buffer.now (told-legal _ (sym c.in_ok-check_pair.ensures))
    (omega (arith, length-tagged-key z.text.now z.tag.now)) in
    (sym p.0, sym p.1)

pub write-requires-2 : goal.write-requires-2
write-requires-2 c =
    let l = ap length c.write.ensures in
    let t = ap length c.raw.ensures.stored in
    simp (length-take, length-drop) (omega arith)

pub returns : goal.returns
returns c =
    let text = c.args.text.now in
    let tag = c.args.tag.now in
    let b = c.args.buffer.now in
    let m : c.measure-m.result ≡ length (tag_bytes tag) = c.measure-m.ensures ∙ ap length c.tag-front.ensures.stored in
    let whole = length-tagged-key text tag in
    let p = pack-done text tag b (told-legal _ (sym c.in_ok-check_pair.ensures)) (omega arith) in (
      rw (m, whole) (sym p.0),
      placed-key text tag b _ _ _ (omega arith) m (rw c.tag-front.ensures.stored at c.write.ensures) (rw c.raw.ensures.stored at c.write-2.ensures) ∙ sym p.1,
    )
