-- What a check answers. Assumes nothing.
use Rattle.std.specs.Prelude.{Result, Ok, Err}
use Rattle.std.proofs.Math.Option.{Option, none, some}
use Rattle.refusals.specs.declared.Refusal.{Refusal}

abbrev pub checked_by : Option Refusal → Result Unit Refusal
checked_by none = Ok tt
checked_by (some why) = Err why
