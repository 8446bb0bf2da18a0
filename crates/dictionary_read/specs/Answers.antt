-- Document 01's answer for each case of read's and count's result. Assumes nothing.
use Rattle.std.specs.Prelude.{ℕ, Option, Some, None, Result, Ok, Err}
use Rattle.refusals.specs.declared.Refusal.{Refusal}
use Rattle.layout.specs.Numbers.{kind_number}
use Rattle.model.specs.Answers.{ReadAnswer, CountAnswer}
use Rattle.locate.specs.declared.pieces.Told.{Told}

abbrev pub told_by : Result (Option Told) Refusal → ReadAnswer
told_by (Ok (Some x)) = ReadAnswer.name (kind_number x.kind) x.first x.second
told_by (Ok None) = ReadAnswer.absent
told_by (Err why) = ReadAnswer.refused why

abbrev pub counted_by : Result ℕ Refusal → CountAnswer
counted_by (Ok n) = CountAnswer.count n
counted_by (Err why) = CountAnswer.refused why
