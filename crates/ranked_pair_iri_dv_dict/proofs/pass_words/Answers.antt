-- `ranked_pair_iri_dv_dict::pass_words` meets its contract: eight bytes without a mark at the end have no part in the head.
use Rattle.std.proofs.Common.{refl, ◌∙◌, arith}
use Rattle.ranked_pair_iri_dv_dict.proofs.Words.{part-head}
use Rattle.ranked_pair_iri_dv_dict.proofs.pass_words.Goals as goal

pub loop-before-preserved : goal.loop-before-preserved
loop-before-preserved c =
    let s = c.loop-before.rest.now in
    let q = c.in-Some.ensures.cases in
    let h = part-head 8 s c.in-Some.word.now (omega arith) q.1 (c.if-not-has_no_mark.ensures refl) in
    rw q.0 (h ∙ c.loop-before.invariant)
