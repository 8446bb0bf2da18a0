-- Lists of different lengths are not the same; lists of the same length are where all pairs are. Assumes nothing.
use Rattle.std.proofs.Common.{rules, sym, ◌∙◌}
use borrow.Author.Tests.{tests, ne_eqb}
use Rattle.std.proofs.lemmas.Iterator.{YieldsList-from_slice, YieldsList-from_zip, same_from_all}
use Rattle.slices.proofs.Bytes.{bytes-true, bytes_same}
use Rattle.slices.proofs.Tests.{same_test}
use Rattle.parts.proofs.Laws.{same_length}
use Rattle.parts.proofs.same_raw.Goals as goal

pub returns-then-s-stored : goal.returns-then-s-stored
returns-then-s-stored c =
    let d = same_from_all c.all.new.self _ c.all.result c.args.s.now c.args.stored.now c.all.ensures.ran
    (YieldsList-from_zip (YieldsList-from_slice c.args.s.now cc) (YieldsList-from_slice c.args.stored.now cc))
    c.if-s-stored.true
    (λ x q k. search (rules, tests))
    (λ x q k. search (rules, tests)) in
    same_test _ _ (λ t. rw (d.0 t) (bytes_same c.args.stored.now)) (λ t. d.1 (bytes-true _ _ t))

pub returns-else-s-stored : goal.returns-else-s-stored
returns-else-s-stored c = ne_eqb _ _ c.if-s-stored.false ∙ sym (same_length c.args.s.now c.args.stored.now c.if-s-stored.false)
