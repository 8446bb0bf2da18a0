-- Document 01's answer for each case of find's result. Assumes nothing.
use Rattle.std.specs.Prelude.{Option, Some, None, Result, Ok, Err}
use Rattle.refusals.specs.declared.Refusal.{Refusal}
use Rattle.meta_dv_dict.specs.declared.GlobalId.{GlobalId}
use Rattle.model.specs.Answers.{FindAnswer}

abbrev pub found_by : Result (Option GlobalId) Refusal → FindAnswer
found_by (Ok (Some x)) = FindAnswer.known x.0
found_by (Ok None) = FindAnswer.absent
found_by (Err why) = FindAnswer.refused why
