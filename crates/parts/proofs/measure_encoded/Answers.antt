-- The sum over the bytes, and the end's width. Assumes nothing.
use Rattle.std.proofs.Common.{length, ap, arith, rules}
use Rattle.std.proofs.lemmas.Iterator.{YieldsList-from_slice, YieldsList-from_map}
use Rattle.std.proofs.lemmas.Iterator.Consumers.{sum_by_from_yields_List, fits_by_from_yields_list}
use Rattle.encoding.specs.Encoding.{encoded_byte}
use Rattle.encoding.proofs.Laws.{length-encoded}
use Rattle.parts.proofs.Laws.{length-sum}
use Rattle.parts.proofs.measure_encoded.Goals as goal

pub sum-width-requires-clause-fits : goal.sum-width-requires-clause-fits
sum-width-requires-clause-fits c =
    let f = c.args.form in
    let tag = c.args.tag.now in
    fits_by_from_yields_list (λ b. length (encoded_byte f b)) tag c.map.result _
    (YieldsList-from_map _ _ (YieldsList-from_slice tag cc) c.map.ensures.closure (λ x r q k. search rules))
    (omega (arith, length-sum f tag, length-encoded f tag))

pub overflow_add-result : goal.overflow_add-result
overflow_add-result c =
    let f = c.args.form in
    let tag = c.args.tag.now in
    let e = sum_by_from_yields_List (λ b. length (encoded_byte f b)) tag c.map.result c.sum-width.result c.sum-width.ensures.ran
    (YieldsList-from_map _ _ (YieldsList-from_slice tag cc) c.map.ensures.closure (λ x r q k. search rules)) in
    omega (arith, ap length c.end.ensures, length-sum f tag, length-encoded f tag)

pub returns : goal.returns
returns c =
    let f = c.args.form in
    let tag = c.args.tag.now in
    let e = sum_by_from_yields_List (λ b. length (encoded_byte f b)) tag c.map.result c.sum-width.result c.sum-width.ensures.ran
    (YieldsList-from_map _ _ (YieldsList-from_slice tag cc) c.map.ensures.closure (λ x r q k. search rules)) in
    omega (arith, ap length c.end.ensures, length-sum f tag)
