-- With what is left stored at i, all is stored. Assumes nothing.
use Rattle.std.proofs.Common.{◌≡◌, drop}
use Rattle.std.proofs.lemmas.List.Edits.{sets}
use Rattle.parts.proofs.write_raw.Given as goal

abbrev pub invariant-loop-i : goal.invariant-loop-i
invariant-loop-i l = sets l.dst l.i (drop l.i l.s) ≡ sets l.fn.dst 0 l.s
