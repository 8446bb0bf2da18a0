-- Each return by its law.
use Rattle.std.proofs.Common.{sym, arith}
use Rattle.std.proofs.lemmas.Result.{err_from_is_err_and}
use Rattle.layout.proofs.Numbers.{kind-below}
use Rattle.blocks.proofs.Answers.{held_below, allocates-past, allocates-held, allocates-bad, allocates-first, allocates-next, allocates-bad-before}
use Rattle.blocks.proofs.allocate_block.Goals as goal

pub returns-then-lists-l : goal.returns-then-lists-l
returns-then-lists-l c = allocates-past c.args.lists.now.layout.sizes _ _ _ _ (kind-below c.args.kind) c.block_size-size.ensures.0 c.if-lists-l.true

pub returns-in_err-g : goal.returns-in_err-g
returns-in_err-g c =
    let p = err_from_is_err_and c.from_residual.result c.from_residual.ensures.1 in
    rw (p.1, p.2)
    (allocates-bad c.args.lists.now.layout.sizes _ _ _ _ (kind-below c.args.kind) c.block_size-size.ensures.0 _ c.if-n-size-ne0.true (sym c.in_err-g.ensures))

pub returns-then-n-size-ne0 : goal.returns-then-n-size-ne0
returns-then-n-size-ne0 c =
    allocates-held c.args.lists.now.layout.sizes _ _ _ _ (kind-below c.args.kind) c.block_size-size.ensures.0 _ c.if-lists-l.false c.if-n-size-ne0.true (sym c.in_ok-g.ensures)

pub returns-then-l-eq0 : goal.returns-then-l-eq0
returns-then-l-eq0 c =
    allocates-first c.args.lists.now.layout.sizes _ _ _ _ (kind-below c.args.kind) c.block_size-size.ensures.0 _ c.if-lists-l.false c.if-n-size-ne0.false c.if-l-eq0.true c.first_free.ensures

pub returns-in_err-g-2 : goal.returns-in_err-g-2
returns-in_err-g-2 c =
    let p = err_from_is_err_and c.from_residual-in_err-g-2.result c.from_residual-in_err-g-2.ensures.1 in
    rw (p.1, p.2)
    (allocates-bad-before c.args.lists.now.layout.sizes _ _ _ _ (kind-below c.args.kind) c.block_size-size.ensures.0 _ c.if-l-eq0.false (sym c.in_err-g-2.ensures))

pub overflow_add-g : goal.overflow_add-g
overflow_add-g c = omega (arith, held_below _ _ _ (sym c.in_ok-g-2.ensures))

pub returns : goal.returns
returns c =
    allocates-next c.args.lists.now.layout.sizes _ _ _ _ (kind-below c.args.kind) c.block_size-size.ensures.0 _ _ c.if-lists-l.false c.if-n-size-ne0.false c.if-l-eq0.false
    (sym c.in_ok-g-2.ensures) c.first_free-2.ensures
