-- Each answer by its law, from the spots of the head and of the key as they were planned. Assumes nothing.
use Rattle.std.proofs.Common.{arith}
use Rattle.std.specs.Prelude.{Ok, Err}
use Rattle.layout.specs.Numbers.{kind_number}
use Rattle.std.proofs.lemmas.Result.{err_from_is_err_and}
use Rattle.layout.proofs.Numbers.{kind-below}
use Rattle.bytes_buffer.proofs.Spots.{lowest-page}
use Rattle.plan.proofs.Plans.{plans-roomless, plans-headless, plans-pageless, plans-blockless, plans-ready, plans-with, head-paged, head-sized}
use Rattle.plan.proofs.plan_with.Goals as goal

pub returns : goal.returns
returns c =
    plans-with _ _ _ _ c.args.size _ _
    (λ n q.
    let lists = c.args.lists.now in
    let h = head-sized lists.layout.sizes lists.bytes.now (kind_number c.args.kind) c.in_ok-n.field-0.untaken n c.args.size _ c.and-new_head.result
    (Ok c.in_ok-head_spot.head_spot) c.unwrap_or.ensures c.and-new_head.ensures q c.in_ok-head_spot.ensures in
    plans-ready _ _ _ _ _ n _ (kind-below c.args.kind) _ _ c.in_ok-n.ensures _ h _ _ c.of.ensures.main_at
    c.untaken_after-next.ensures _ c.in_ok-spot.ensures.spot c.in_ok-spot.ensures.in_pages c.in_ok-g.field-0 c.requires.1 c.in_ok-g.ensures)

pub returns-in_err-n : goal.returns-in_err-n
returns-in_err-n c =
    let p = err_from_is_err_and c.from_residual.result c.from_residual.ensures.1 in
    rw (p.1, p.2) (plans-with _ _ _ _ c.args.size _ _ (λ n q. plans-roomless _ _ _ _ _ n _ (kind-below c.args.kind) _ c.in_err-n.ensures))

pub returns-in_err-head_spot : goal.returns-in_err-head_spot
returns-in_err-head_spot c =
    let p = err_from_is_err_and c.from_residual-in_err-head_spot.result c.from_residual-in_err-head_spot.ensures.1 in
    rw (p.1, p.2)
    (plans-with _ _ _ _ c.args.size _ _
    (λ n q.
    let lists = c.args.lists.now in
    let h = head-sized lists.layout.sizes lists.bytes.now (kind_number c.args.kind) c.in_ok-n.field-0.untaken n c.args.size _ c.and-new_head.result
    (Err c.in_err-head_spot.field-0.0) c.unwrap_or.ensures c.and-new_head.ensures q c.in_err-head_spot.ensures in
    plans-headless _ _ _ _ _ n _ (kind-below c.args.kind) _ _ c.in_ok-n.ensures _ h))

pub plan_head-requires : goal.plan_head-requires
plan_head-requires c = head-paged _ c.args.size _ _ c.unwrap_or.ensures c.and-new_head.ensures c.requires.0

pub untaken_after-next-requires : goal.untaken_after-next-requires
untaken_after-next-requires c = omega (arith, (lowest-page _ _ _ c.in_ok-n.ensures.lowest).1, c.args.lists.now.layout.in_range.n)

pub returns-in_err-spot : goal.returns-in_err-spot
returns-in_err-spot c =
    let p = err_from_is_err_and c.from_residual-in_err-spot.result c.from_residual-in_err-spot.ensures.1 in
    rw (p.1, p.2)
    (plans-with _ _ _ _ c.args.size _ _
    (λ n q.
    let lists = c.args.lists.now in
    let h = head-sized lists.layout.sizes lists.bytes.now (kind_number c.args.kind) c.in_ok-n.field-0.untaken n c.args.size _ c.and-new_head.result
    (Ok c.in_ok-head_spot.head_spot) c.unwrap_or.ensures c.and-new_head.ensures q c.in_ok-head_spot.ensures in
    plans-pageless _ _ _ _ _ n _ (kind-below c.args.kind) _ _ c.in_ok-n.ensures _ h _ _ c.of.ensures.main_at
    c.untaken_after-next.ensures _ c.in_err-spot.ensures.spot c.in_err-spot.ensures.in_pages))

pub returns-in_err-g : goal.returns-in_err-g
returns-in_err-g c =
    let p = err_from_is_err_and c.from_residual-in_err-g.result c.from_residual-in_err-g.ensures.1 in
    rw (p.1, p.2)
    (plans-with _ _ _ _ c.args.size _ _
    (λ n q.
    let lists = c.args.lists.now in
    let h = head-sized lists.layout.sizes lists.bytes.now (kind_number c.args.kind) c.in_ok-n.field-0.untaken n c.args.size _ c.and-new_head.result
    (Ok c.in_ok-head_spot.head_spot) c.unwrap_or.ensures c.and-new_head.ensures q c.in_ok-head_spot.ensures in
    plans-blockless _ _ _ _ _ n _ (kind-below c.args.kind) _ _ c.in_ok-n.ensures _ h _ _ c.of.ensures.main_at
    c.untaken_after-next.ensures _ c.in_ok-spot.ensures.spot c.in_ok-spot.ensures.in_pages _ c.in_err-g.ensures))
