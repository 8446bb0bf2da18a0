-- One byte more of the scan, and its end. Assumes nothing.
use Rattle.std.proofs.Common.{◌≡◌, ℕ, ◌+◌, ◌<◌, Some, None, length, drop, get_or, drop-cons, add-one, sym, ◌∙◌}
use Rattle.slices.specs.Bytes.{Bytes}
use Rattle.string_dv_dict_split.specs.declared.Scan.{Scan}
use Rattle.string_dv_dict_split.specs.Scans.{scan_step, scan_from}
use Rattle.string_dv_dict_split.proofs.Escapes.{scan-bad}
use Rattle.string_dv_dict_split.proofs.scan_tag.Goals as goal

more : (st : Scan) (i : ℕ) (s : Bytes) → i < length s
    → scan_from (scan_step (Some st) (get_or s i 0)) (drop (i + 1) s) ≡ scan_from (Some st) (drop i s)
unfolding scan_from
more st i s l = rw (add-one, drop-cons s i 0 l)

stopped : (st : Scan) (i : ℕ) (s : Bytes) → i < length s → None ≡ scan_step (Some st) (get_or s i 0) → scan_from (Some st) (drop i s) ≡ None
stopped st i s l e = sym (more st i s l) ∙ rw (← e) (scan-bad (drop (i + 1) s))

pub returns-in_err-state : goal.returns-in_err-state
returns-in_err-state c =
    let l = c.loop-c in
    c.from_residual.ensures
    ∙ sym (stopped l.state l.c-index c.args.s.now c.loop-c-test.true c.in_err-state.ensures)
    ∙ l.invariant.left
