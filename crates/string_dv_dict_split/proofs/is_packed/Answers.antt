-- In either form, each of the tests. Assumes nothing.
use Rattle.std.proofs.Common.{◌≡◌, ℕ, Some, ◌+◌, ◌&&◌, ltb, leb, length, refl, sym, ap, ◌∙◌, arith}
use borrow.Author.Tests.{lt-leb, lt-ltb, le-ltb}
use Rattle.std.proofs.Math.Option.{Option, none, some}
use Rattle.std.specs.Result.{is_ok}
use Rattle.layout.specs.Sizes.{name_limit}
use Rattle.utf8.specs.Text.{is_text}
use Rattle.refusals.specs.declared.Refusal.{Refusal}
use Rattle.refusals.specs.Checked.{checked_by}
use Rattle.slices.specs.Bytes.{Bytes}
use Rattle.string_dv_dict_split.specs.declared.Form.TheVariants.{Short, Long}
use Rattle.string_dv_dict_split.specs.Forms.{tag_in, is_legal}
use Rattle.string_dv_dict_split.specs.Scans.{split_of, ShortForm, LongForm}
use Rattle.string_dv_dict_split.proofs.Text.{text-escaped}
use Rattle.string_dv_dict_split.proofs.PackedParts.{split_parts, short-legal, short-cut, long-low, long-tests}
use Rattle.string_dv_dict_split.proofs.is_packed.Goals as goal
use Rattle.string_dv_dict_split.proofs.is_packed.Goals.{then-n-gt-SHORT, else-n-gt-SHORT, then-text-n-le-NAME_LIMIT, else-text-n-le-NAME_LIMIT}

checked : (o : Option Refusal) → is_ok (checked_by o) ≡ is_legal o
checked none = refl
checked (some why) = refl

-- The form of a raw tag, and of an escaped one.
raw : (form tag : Bytes) → split_of form ≡ Some (Short (length tag)) → ShortForm form (length tag)
raw form tag e = split_parts form (Some (Short (length tag))) e

long : (form tag : Bytes) (n : ℕ) → split_of form ≡ Some (Long (length tag) (length (tag_in form))) → n ≡ length (tag_in form) → LongForm form (length tag) n
long form tag n e l = split_parts form (Some (Long (length tag) n)) (rw l e)

pub overflow_add-text : goal.overflow_add-text
overflow_add-text c =
    let h = long c.args.x.now.bytes.now c.in-Escaped.escaped.now c.tag_length-n.result c.in-Escaped.ensures.stands.0 c.tag_length-n.ensures in
    omega (arith, long-low h, ap length c.text-text.ensures, h.within, ap length h.text)

pub returns-then-n-le-SHORT : goal.returns-then-n-le-SHORT
returns-then-n-le-SHORT c =
    let t = c.in-Raw.tag.now in
    let b : t ≡ tag_in c.args.x.now.bytes.now = c.in-Raw.ensures.bytes in
    let h = raw c.args.x.now.bytes.now t c.in-Raw.ensures.stands in
    c.is_ok.ensures.value
    ∙ ap is_ok c.check_pair.ensures
    ∙ checked _
    ∙ rw (c.text-text.ensures, b) (short-legal h (omega (arith, ap length b, c.tag_length-n.ensures)))

pub returns-else-n-le-SHORT : goal.returns-else-n-le-SHORT
returns-else-n-le-SHORT c =
    let t = c.in-Raw.tag.now in
    let b : t ≡ tag_in c.args.x.now.bytes.now = c.in-Raw.ensures.bytes in
    let h = raw c.args.x.now.bytes.now t c.in-Raw.ensures.stands in
    rw (lt-leb c.tag_length-n.result 127 (omega arith)) (sym (short-cut h (omega (arith, ap length b, c.tag_length-n.ensures))))

pub returns-then-is_text : goal.returns-then-is_text
unfolding name_limit
returns-then-is_text c =
    let h = long c.args.x.now.bytes.now c.in-Escaped.escaped.now c.tag_length-n.result c.in-Escaped.ensures.stands.0 c.tag_length-n.ensures in
    let n = c.tag_length-n.result in
    let t = c.text-text.result.now in
    let a : c.if-n-gt-SHORT.value ≡ (ltb 127 n && leb (length t + n) name_limit) =
    elim c.if-n-gt-SHORT.branch [ then-n-gt-SHORT w ↦ rw (lt-ltb 127 n (omega arith)) w.value-is | else-n-gt-SHORT w ↦ rw (le-ltb 127 n (omega arith)) (w.value-is ∙ le-ltb 127 n (omega arith)) ] in
    let b : c.if-text-n-le-NAME_LIMIT.value ≡ (c.if-n-gt-SHORT.value && is_text t) =
    elim c.if-text-n-le-NAME_LIMIT.branch [ then-text-n-le-NAME_LIMIT w ↦ rw w.if-text-n-le-NAME_LIMIT.true (w.value-is ∙ w.is_text.ensures) | else-text-n-le-NAME_LIMIT w ↦ rw w.if-text-n-le-NAME_LIMIT.false (w.value-is ∙ w.if-text-n-le-NAME_LIMIT.false) ] in
    c.is_text-then-is_text.ensures ∙ ap is_text c.in-Escaped.ensures.stands.1 ∙ text-escaped (tag_in c.args.x.now.bytes.now) ∙ (long-tests h (rw c.text-text.ensures at a) (rw c.text-text.ensures at b)).0 c.if-is_text.true

pub returns-else-is_text : goal.returns-else-is_text
unfolding name_limit
returns-else-is_text c =
    let h = long c.args.x.now.bytes.now c.in-Escaped.escaped.now c.tag_length-n.result c.in-Escaped.ensures.stands.0 c.tag_length-n.ensures in
    let n = c.tag_length-n.result in
    let t = c.text-text.result.now in
    let a : c.if-n-gt-SHORT.value ≡ (ltb 127 n && leb (length t + n) name_limit) =
    elim c.if-n-gt-SHORT.branch [ then-n-gt-SHORT w ↦ rw (lt-ltb 127 n (omega arith)) w.value-is | else-n-gt-SHORT w ↦ rw (le-ltb 127 n (omega arith)) (w.value-is ∙ le-ltb 127 n (omega arith)) ] in
    let b : c.if-text-n-le-NAME_LIMIT.value ≡ (c.if-n-gt-SHORT.value && is_text t) =
    elim c.if-text-n-le-NAME_LIMIT.branch [ then-text-n-le-NAME_LIMIT w ↦ rw w.if-text-n-le-NAME_LIMIT.true (w.value-is ∙ w.is_text.ensures) | else-text-n-le-NAME_LIMIT w ↦ rw w.if-text-n-le-NAME_LIMIT.false (w.value-is ∙ w.if-text-n-le-NAME_LIMIT.false) ] in
    (long-tests h (rw c.text-text.ensures at a) (rw c.text-text.ensures at b)).1 c.if-is_text.false
