-- Each return by its law.
use Rattle.std.proofs.Common.{sym}
use Rattle.std.proofs.lemmas.Result.{err_from_is_err_and}
use Rattle.layout.proofs.Numbers.{kind-below}
use Rattle.blocks.proofs.Answers.{held_below}
use Rattle.meta_dv_dict.proofs.Answers.{globals-past, globals-bad, globals-there}
use Rattle.meta_dv_dict.proofs.local_to_global.Goals as goal

pub returns-then-lists-l : goal.returns-then-lists-l
returns-then-lists-l c = globals-past c.args.lists.now.layout.sizes _ _ _ _ (kind-below c.args.kind) c.block_size.ensures.0 c.if-lists-l.true

pub returns-in_err-g : goal.returns-in_err-g
returns-in_err-g c =
    let p = err_from_is_err_and c.from_residual.result c.from_residual.ensures.1 in
    rw (p.1, p.2) (globals-bad c.args.lists.now.layout.sizes _ _ _ _ (kind-below c.args.kind) c.block_size.ensures.0 _ (sym c.in_err-g.ensures))

pub number_in-requires : goal.number_in-requires
number_in-requires c = held_below _ _ c.in_ok-g.g (sym c.in_ok-g.ensures)

pub returns : goal.returns
returns c =
    rw (c.number_in.ensures, ← c.block_size.ensures.0)
    (globals-there c.args.lists.now.layout.sizes _ _ _ _ (kind-below c.args.kind) c.block_size.ensures.0 _ (sym c.in_ok-g.ensures))
