-- Document 01's answer for each case of open's result. Assumes nothing.
use Rattle.std.specs.Prelude.{Result, Ok, Err}
use Rattle.refusals.specs.declared.Refusal.{Refusal}
use Rattle.model.specs.Answers.{OpenAnswer}

abbrev pub opened_by : Result Unit Refusal → OpenAnswer
opened_by (Ok x) = OpenAnswer.done
opened_by (Err why) = OpenAnswer.refused why
