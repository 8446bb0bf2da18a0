-- What an entry that writes a form answers, and the buffer after it. Assumes nothing.
use Rattle.std.specs.Prelude.{ℕ, ◌++◌, length, drop, Result, Ok, Err}
use Rattle.std.proofs.Math.Option.{Option, none, some}
use Rattle.slices.specs.Bytes.{Bytes}
use Rattle.refusals.specs.declared.Refusal.{Refusal}

-- The length of the form, unless there is a refusal.
abbrev pub written_by : Bytes → Option Refusal → Result ℕ Refusal
written_by form none = Ok (length form)
written_by form (some why) = Err why

-- The buffer afterwards: the form at its start and the rest as found. With a refusal all bytes are as found.
abbrev pub placed_by : Bytes → Bytes → Option Refusal → Bytes
placed_by form buffer none = form ++ drop (length form) buffer
placed_by form buffer (some why) = buffer
