-- `lines::digits`: the number so far goes on with what is left to the number of the whole text. Each turn takes one byte.
use Rattle.std.proofs.Common.{◌≡◌, ◌≤◌, length}
use Rattle.lines.specs.Digits.{number_in}
use Rattle.lines.proofs.digits.Given as goal

abbrev pub invariant-loop-rest : goal.invariant-loop-rest
invariant-loop-rest g l = record {
  left : number_in g.row.BASE g.row.ROOM l.value l.rest ≡ number_in g.row.BASE g.row.ROOM 0 l.text;
  within : length l.rest ≤ length l.text;
}

abbrev pub decreases-loop-rest : goal.decreases-loop-rest
decreases-loop-rest g l = length l.rest
