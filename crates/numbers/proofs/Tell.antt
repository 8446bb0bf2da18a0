-- The numbers of the exported entries of the dictionary tell an entry's answers apart: the answer comes back from them. Assumes nothing.
use mathlib.Core.Path.{◌≡◌, refl, ap}
use Rattle.refusals.proofs.Back.{refusal-back}
use Rattle.model.specs.Answers.{OpenAnswer, AddAnswer, FindAnswer, ReadAnswer, CountAnswer}
use Rattle.numbers.specs.Numbers.{open_number, add_numbers, find_numbers, name_numbers, count_numbers}
use Rattle.numbers.specs.Answers.{open_of, add_of, find_of, read_of, count_of}

pub open-back : (x : OpenAnswer) → open_of (open_number x) ≡ x
open-back OpenAnswer.done = refl
open-back (OpenAnswer.refused why) = rw (refusal-back why).1 (ap OpenAnswer.refused (refusal-back why).0)

pub add_back : (x : AddAnswer) → add_of (add_numbers x) ≡ x
add_back (AddAnswer.fresh n) = refl
add_back (AddAnswer.known n) = refl
add_back (AddAnswer.refused why) = rw (refusal-back why).1 (ap AddAnswer.refused (refusal-back why).0)

pub find-back : (x : FindAnswer) → find_of (find_numbers x) ≡ x
find-back (FindAnswer.known n) = refl
find-back FindAnswer.absent = refl
find-back (FindAnswer.refused why) = rw (refusal-back why).1 (ap FindAnswer.refused (refusal-back why).0)

pub read_back : (x : ReadAnswer) → read_of (name_numbers x) ≡ x
read_back (ReadAnswer.name k m n) = refl
read_back ReadAnswer.absent = refl
read_back (ReadAnswer.refused why) = rw (refusal-back why).1 (ap ReadAnswer.refused (refusal-back why).0)

pub count-back : (x : CountAnswer) → count_of (count_numbers x) ≡ x
count-back (CountAnswer.count n) = refl
count-back (CountAnswer.refused why) = rw (refusal-back why).1 (ap CountAnswer.refused (refusal-back why).0)
