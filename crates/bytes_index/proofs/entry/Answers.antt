-- The bytes of the entry's span.
use Rattle.std.specs.Prelude.{Ok, Err}
use Rattle.std.proofs.Common.{ℕ, ◌+◌, ◌-◌, ◌≡◌, take, drop, ap, ◌∙◌, arith}
use Rattle.std.proofs.lemmas.Result.{err_from_is_err_and}
use Rattle.slices.specs.Bytes.{Bytes}
use Rattle.layout.specs.declared.Sizes.{Sizes}
use Rattle.bytes_index.specs.declared.Span.{Span}
use Rattle.bytes_index.specs.Field.{entry_bytes, entry_in, entry_field}
use Rattle.bytes_index.proofs.Spans.{bytes-by}
use Rattle.bytes_index.proofs.entry.Goals as goal

good : (s : Sizes) (pages : Bytes) (w : ℕ) (x : Span) → Ok x ≡ entry_field s w → Ok (take (x.at + x.len - x.at) (drop x.at pages)) ≡ entry_bytes s pages w
good s pages w x e =
    let z : x.at + x.len - x.at ≡ x.len = omega arith in
    rw z (bytes-by s pages w (Ok x) e)

pub returns-in_err-span : goal.returns-in_err-span
returns-in_err-span c =
    let m = c.args.memory.now in
    let f = err_from_is_err_and c.from_residual.result c.from_residual.ensures.1 in
    ap entry_in f.1 ∙ ap Err f.2 ∙ bytes-by m.lists.layout.sizes m.pages.now _ _ c.in_err-span.ensures.field

pub overflow_add-end : goal.overflow_add-end
overflow_add-end c =
    let m = c.args.memory.now in
    let i = c.in_ok-span.ensures.inside in
    omega (arith, i, m.fit)

pub slice_bounds-result-end : goal.slice_bounds-result-end
slice_bounds-result-end c =
    let m = c.args.memory.now in
    let i = c.in_ok-span.ensures.inside in
    omega (arith, i, m.fit)

pub returns : goal.returns
returns c =
    let m = c.args.memory.now in
    good m.lists.layout.sizes m.pages.now _ c.in_ok-span.span c.in_ok-span.ensures.field
