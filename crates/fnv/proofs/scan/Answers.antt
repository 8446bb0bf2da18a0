-- The next byte is taken on; after the last, none is left.
use Rattle.std.proofs.Common.{sym, ◌∙◌, arith, ◌≤◌, length}
use Rattle.std.proofs.lemmas.List.{at_drop_more, drop_all}
use Rattle.fnv.specs.Fnv.{fnv_from, bits_from}
use Rattle.fnv.proofs.scan.Goals as goal

pub loop-b-preserved : goal.loop-b-preserved
unfolding fnv_from bits_from
loop-b-preserved c =
    let s = c.args.s.now in
    let b = c.loop-b in
    record {
      hash = rw c.fnv_step-h.ensures (sym (at_drop_more (fnv_from b.h) s b.b-index 0 (omega arith)) ∙ b.invariant.hash);
      bits = sym (at_drop_more (bits_from b.seen) s b.b-index 0 (omega arith)) ∙ b.invariant.bits;
    }

pub returns : goal.returns
unfolding fnv_from bits_from
returns c =
    let left : length c.args.s.now ≤ c.loop-b.b-index = omega arith in
    let none = drop_all _ _ left in
    let hash = c.loop-b.invariant.hash in
    let bits = c.loop-b.invariant.bits in
    (rw none at hash, rw none at bits)
