-- The number and the size are those of the head, if there is one. Assumes nothing.
use Rattle.std.proofs.Common.{◌≡◌, arith}
use Rattle.std.specs.Prelude.{unwrap_or, option_map}
use Rattle.plan_room.specs.Steps.{head_number, head_size}
use Rattle.plan.proofs.Plans.{size_of, plans-named}
use Rattle.plan.proofs.plan_name.Goals as goal
use Rattle.plan.proofs.plan_name.Goals.{in-Some, in-None}

pub plan_with-requires : goal.plan_with-requires
plan_with-requires c =
    let e : unwrap_or c.match-head.f.1 0 ≡ head_size c.args.head = elim c.match-head.branch [ in-Some w ↦ rw (w.in-Some.is, w.f-is) | in-None w ↦ rw (w.in-None.is, w.f-is) ] in
    (omega (arith, e), c.requires.1)

pub returns : goal.returns
returns c =
    let p : c.match-head.f.0 ≡ head_number c.args.head = elim c.match-head.branch [ in-Some w ↦ rw (w.in-Some.is, w.f-is) | in-None w ↦ rw (w.in-None.is, w.f-is) ] in
    let e : c.match-head.f.1 ≡ option_map size_of c.args.head = elim c.match-head.branch [ in-Some w ↦ rw (w.in-Some.is, w.f-is) | in-None w ↦ rw (w.in-None.is, w.f-is) ] in
    plans-named _ _ _ _ _ c.args.head _ _ p e c.plan_with.ensures
