-- What is left, scanned from the state so far, gives what all of it gives; no more is counted than has passed. Assumes nothing.
use Rattle.std.proofs.Common.{◌≡◌, ◌≤◌, Some, drop}
use Rattle.string_dv_dict_split.specs.declared.Scan.TheVariants.{Whole}
use Rattle.string_dv_dict_split.specs.Scans.{scan_from, scanned}
use Rattle.string_dv_dict_split.proofs.scan_tag.Given as goal

abbrev pub invariant-loop-c : goal.invariant-loop-c
invariant-loop-c l = record {
  left : scan_from (Some l.state) (drop l.c-index l.s) ≡ scan_from (Some (Whole 0)) l.s;
  counted : scanned l.state ≤ l.c-index;
}
