-- A block and a stamp by their laws, and the refusal if one of them is not there. Assumes nothing.
use Rattle.std.proofs.Common.{rules}
use Rattle.std.proofs.lemmas.Result.{err_from_is_err_and}
use Rattle.plan_room.proofs.Steps.{chooses-unstamped, chooses-block}
use Rattle.plan_room.proofs.choose_block.Goals as goal

pub returns-in_err-stamp : goal.returns-in_err-stamp
returns-in_err-stamp c =
    let p = err_from_is_err_and c.from_residual-in_err-stamp.result c.from_residual-in_err-stamp.ensures.1 in
    rw (p.1, p.2) (chooses-unstamped _ _ _ _ _ c.in_err-stamp.ensures)

pub returns : goal.returns
returns c = chooses-block _ _ _ _ _ _ (rw c.in-Some.is at c.in_ok-g.ensures) c.in_ok-stamp.ensures

pub returns-in_default : goal.returns-in_default
returns-in_default c = search rules
