-- Text and tag of the split entry are the pieces. Assumes nothing.
use Rattle.std.proofs.Common.{Option, ◌≡◌, Some, Err, Result, IfSome, length, refl, sym, ap, subst, ◌∙◌}
use Rattle.std.proofs.lemmas.Result.{err_from_is_err_and}
use Rattle.slices.specs.Bytes.{Bytes}
use Rattle.refusals.specs.declared.Refusal.{Refusal}
use Rattle.refusals.specs.declared.Refusal.TheVariants.{Unopened}
use Rattle.string_dv_dict_split.specs.declared.forms.Split.{Split}
use Rattle.string_dv_dict_split.specs.Forms.{text_in, tag_in}
use Rattle.string_dv_dict_split.specs.Pieces.{formed, piece_bytes}
use Rattle.locate.specs.Located.{LiesIn}
use Rattle.locate.proofs.Lies.{text-lies, tag-lies}
use Rattle.locate.proofs.Strings.{split-small, located-tagged, located-cut}
use Rattle.locate.proofs.locate_tagged.Goals as goal

-- The split has the bytes of the entry.
same-bytes : (stored : Bytes) {o : Option Split} {x : Split} → IfSome o (λ x. x.bytes.now ≡ stored) → o ≡ Some x → x.bytes.now ≡ stored
same-bytes stored b f = subst (λ (s : Option Split). IfSome s (λ x. x.bytes.now ≡ stored)) f b

pub returns-in_err-parts : goal.returns-in_err-parts
returns-in_err-parts c = λ s pages lists entry.
    let e = c.in_err-parts.ensures in
    let r = err_from_is_err_and c.from_residual.result c.from_residual.ensures.1 in
    let w : ◌≡◌ {A = Result Split Refusal} (Err c.in_err-parts.field-0.0) (Err Unopened) = rw e.ok_part at e.value in
    let k : c.in_err-parts.field-0.0 ≡ Unopened = cc in
    rw (r.1, r.2, k) (located-cut s pages lists _ c.args.kind c.requires (sym c.split.ensures.form ∙ ap formed e.ok_part))

pub returns : goal.returns
returns c = λ s pages lists entry.
    let q = same-bytes c.args.stored.now c.split.ensures.bytes c.in_ok-parts.ensures.ok_part in
    let t : c.text-text.result.now ≡ text_in c.args.stored.now = rw q at c.text-text.ensures in
    let g : piece_bytes c.tag.result ≡ tag_in c.args.stored.now = rw q at c.tag.ensures.bytes in
    let n : c.tag_length.result ≡ length (tag_in c.args.stored.now) = rw q at c.tag_length.ensures in
    let lies : LiesIn s pages c.in_ok-parts.parts.bytes.now = rw q entry.lies in
    located-tagged s pages lists _ c.args.kind entry c.requires (rw q at (split-small c.in_ok-parts.parts)) _
    (rw (t, n) refl) (rw (t, g) refl)
    (rw c.text-text.ensures (text-lies s pages c.in_ok-parts.parts lies))
    (tag-lies s pages _ lies c.tag.result c.tag.ensures.bytes c.tag.ensures.stands)
