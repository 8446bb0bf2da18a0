-- The answer of an exported entry of the dictionary, computed back from the numbers that it returned. Assumes nothing.
use Rattle.std.specs.Prelude.{ℕ, cond, eqb}
use Rattle.refusals.specs.Numbers.{refusal_of}
use Rattle.model.specs.Answers.{OpenAnswer, AddAnswer, FindAnswer, ReadAnswer, CountAnswer}
use Rattle.numbers.specs.declared.NamedictNumbered.{NamedictNumbered}
use Rattle.numbers.specs.declared.NamedictName.{NamedictName}
use Rattle.numbers.specs.declared.NamedictCounted.{NamedictCounted}

abbrev pub open_of : ℕ → OpenAnswer
open_of n = cond (eqb n 0) OpenAnswer.done (OpenAnswer.refused (refusal_of n))

abbrev pub add_of : NamedictNumbered → AddAnswer
add_of r =
    cond (eqb r.refusal 0) (cond (eqb r.word 1) (AddAnswer.fresh r.number) (AddAnswer.known r.number))
    (AddAnswer.refused (refusal_of r.refusal))

abbrev pub find_of : NamedictNumbered → FindAnswer
find_of r =
    cond (eqb r.refusal 0) (cond (eqb r.word 2) (FindAnswer.known r.number) FindAnswer.absent)
    (FindAnswer.refused (refusal_of r.refusal))

abbrev pub read_of : NamedictName → ReadAnswer
read_of r =
    cond (eqb r.refusal 0) (cond (eqb r.word 4) (ReadAnswer.name r.kind r.first_len r.second_len) ReadAnswer.absent)
    (ReadAnswer.refused (refusal_of r.refusal))

abbrev pub count_of : NamedictCounted → CountAnswer
count_of r = cond (eqb r.refusal 0) (CountAnswer.count r.count) (CountAnswer.refused (refusal_of r.refusal))
