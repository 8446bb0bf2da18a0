-- A count that was read is a kind's count word, at most e. So the sum stays small, and at the end it is that of all kinds. Assumes nothing.
use Rattle.std.proofs.Common.{◌≡◌, ◌≤◌, arith, add-one}
use Rattle.std.proofs.lemmas.Result.{err_from_is_err_and}
use Rattle.layout.specs.Sizes.{kinds}
use Rattle.bytes_dictionary.proofs.Reading.{counted-by}
use Rattle.plan_room.proofs.Steps.{counted-at, sum_bound, sum-few, stamps-bad, stamps-sum}
use Rattle.plan_room.specs.Steps.{count_word}
use Rattle.plan_room.proofs.next_stamp.Goals as goal

pub returns-in_err-stamp : goal.returns-in_err-stamp
returns-in_err-stamp c =
    let p = err_from_is_err_and c.from_residual.result c.from_residual.ensures.1 in
    rw (p.1, p.2) (stamps-bad _ _ c.loop-kind.kind-index _ (omega arith) (counted-at _ _ _ c.loop-kind.kind-index _ _ (omega arith) c.of.ensures.main_at c.in_err-stamp.ensures))

pub overflow_add-stamp : goal.overflow_add-stamp
overflow_add-stamp c =
    let lists = c.args.lists.now in
    let r = counted-by lists.layout.sizes (count_word lists.bytes.now c.loop-kind.kind-index) _
    (counted-at _ _ _ c.loop-kind.kind-index _ _ (omega arith) c.of.ensures.main_at c.in_ok-stamp.ensures) in
    omega (arith, r, sum-few _ _ _ c.loop-kind.invariant.0 c.loop-kind.auto.kind-index-end, lists.layout.in_range.e)

pub loop-kind-preserved : goal.loop-kind-preserved
loop-kind-preserved c =
    let lists = c.args.lists.now in
    let r = counted-by lists.layout.sizes (count_word lists.bytes.now c.loop-kind.kind-index) _
    (counted-at _ _ _ c.loop-kind.kind-index _ _ (omega arith) c.of.ensures.main_at c.in_ok-stamp.ensures) in
    let e : c.in_ok-stamp.field-0 ≤ lists.layout.sizes.e = omega (arith, r) in
    (sum_bound _ _ _ _ c.loop-kind.invariant.0 e, rw add-one (omega (arith, r.0, c.loop-kind.invariant.1)))

pub returns : goal.returns
returns c =
    let q : c.loop-kind.kind-index ≡ kinds = omega arith in
    stamps-sum _ _ _ (sum-few _ _ _ c.loop-kind.invariant.0 c.loop-kind.auto.kind-index-end) (rw q at c.loop-kind.invariant.1)
