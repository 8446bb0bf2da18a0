-- The numbers that an exported entry of the dictionary answers for each answer of the library: a refusal's number with zeros, or 0 and the values. Assumes nothing.
use Rattle.std.specs.Prelude.{ℕ}
use Rattle.refusals.specs.declared.Refusal.{Refusal}
use Rattle.refusals.specs.Numbers.{refusal_number}
use Rattle.model.specs.Answers.{OpenAnswer, AddAnswer, FindAnswer, ReadAnswer, CountAnswer}
use Rattle.numbers.specs.declared.NamedictNumbered.{NamedictNumbered}
use Rattle.numbers.specs.declared.NamedictName.{NamedictName}
use Rattle.numbers.specs.declared.NamedictCounted.{NamedictCounted}

-- A word says which answer: 0 none, 1 fresh, 2 known, 4 name.

abbrev pub open_number : OpenAnswer → ℕ
open_number OpenAnswer.done = 0
open_number (OpenAnswer.refused why) = refusal_number why

abbrev pub refused_numbers : Refusal → NamedictNumbered
refused_numbers why = record { refusal = refusal_number why; word = 0; number = 0 }

abbrev pub add_numbers : AddAnswer → NamedictNumbered
add_numbers (AddAnswer.fresh n) = record { refusal = 0; word = 1; number = n }
add_numbers (AddAnswer.known n) = record { refusal = 0; word = 2; number = n }
add_numbers (AddAnswer.refused why) = refused_numbers why

abbrev pub find_numbers : FindAnswer → NamedictNumbered
find_numbers (FindAnswer.known n) = record { refusal = 0; word = 2; number = n }
find_numbers FindAnswer.absent = record { refusal = 0; word = 0; number = 0 }
find_numbers (FindAnswer.refused why) = refused_numbers why

abbrev pub name_numbers : ReadAnswer → NamedictName
name_numbers (ReadAnswer.name k m n) = record { refusal = 0; word = 4; kind = k; first_len = m; second_len = n }
name_numbers ReadAnswer.absent = record { refusal = 0; word = 0; kind = 0; first_len = 0; second_len = 0 }
name_numbers (ReadAnswer.refused why) = record { refusal = refusal_number why; word = 0; kind = 0; first_len = 0; second_len = 0 }

abbrev pub count_numbers : CountAnswer → NamedictCounted
count_numbers (CountAnswer.count n) = record { refusal = 0; count = n }
count_numbers (CountAnswer.refused why) = record { refusal = refusal_number why; count = 0 }
