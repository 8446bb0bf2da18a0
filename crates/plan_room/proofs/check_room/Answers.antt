-- Each refusal by its case. Assumes nothing.
use Rattle.std.proofs.Common.{◌≡◌, sym, inl, inr}
use Rattle.std.proofs.lemmas.Result.{err_from_is_err_and}
use Rattle.plan_room.specs.Steps.{head_number, full-list}
use Rattle.plan_room.proofs.Steps.{counted-main, uncounted-main, unpaged}
use Rattle.plan_room.proofs.check_room.Goals as goal
use Rattle.plan_room.proofs.check_room.Goals.{in-Some, in-None}

pub returns-in_err-n : goal.returns-in_err-n
returns-in_err-n c =
    let p = err_from_is_err_and c.from_residual.result c.from_residual.ensures.1 in
    rw (p.1, p.2) (uncounted-main _ _ _ _ _ (counted-main _ _ _ _ _ c.of.ensures.main_at c.in_err-n.ensures))

pub returns-then-e-n : goal.returns-then-e-n
returns-then-e-n c =
    let n : c.match-head.f ≡ head_number c.args.head = elim c.match-head.branch [ in-Some w ↦ rw (w.in-Some.is) w.f-is | in-None w ↦ rw (w.in-None.is) w.f-is ] in
    full-list _ (counted-main _ _ _ _ _ c.of.ensures.main_at c.in_ok-n.ensures)
    (elim c.then-e-n.either [ inl x ↦ inl x | inr x ↦ inr (rw n at x.1) ])

pub returns-in_err-untaken : goal.returns-in_err-untaken
returns-in_err-untaken c =
    let p = err_from_is_err_and c.from_residual-in_err-untaken.result c.from_residual-in_err-untaken.ensures.1 in
    rw (p.1, p.2) (unpaged _ _ _ _ _ (sym c.in_err-untaken.ensures))
