-- The numbers of the exported leaf rules tell a rule's answers apart: the answer comes back from them. Assumes nothing.
use Prim.Native.Nat.{ℕ}
use mathlib.Core.Path.{◌≡◌, refl, ap}
use mathlib.Core.Bool.{Bool, true, false}
use Rattle.std.specs.Prelude.{Result, Ok, Err}
use Rattle.slices.specs.Bytes.{Bytes}
use Rattle.refusals.specs.declared.Refusal.{Refusal}
use Rattle.refusals.proofs.Back.{refusal-back}
use Rattle.ranked_pair_dictionary.specs.declared.FrequentId.{FrequentId}
use Rattle.ranked_pair_iri_dv_dict.specs.Split.{head_from, head_of, length_of}
use Rattle.ranked_pair_iri_dv_dict.proofs.Laws.{head-length}
use Rattle.string_dv_dict_unpack.specs.declared.Lengths.{Lengths}
use Rattle.leaf_numbers.specs.Numbers.{yes_no, written_numbers, value_numbers, unpacked_numbers}
use Rattle.leaf_numbers.specs.Answers.{yes_of, written_of, value_of, unpacked_of}

-- The text check.
pub yes-back : (x : Bool) → yes_of (yes_no x) ≡ x
yes-back true = refl
yes-back false = refl

-- The split, of every IRI: a head has a byte at the least, so 0 is told for none only.
pub head-back : (iri : Bytes) → head_from (length_of (head_of iri)) ≡ head_of iri
unfolding head_of
head-back iri = ap head_from (head-length iri)

-- Writing a frequent id, and packing.
pub written_back : (x : Result ℕ Refusal) → written_of (written_numbers x) ≡ x
written_back (Ok n) = refl
written_back (Err why) = rw (refusal-back why).1 (ap Err (refusal-back why).0)

-- Reading a frequent id.
pub value-back : (x : Result FrequentId Refusal) → value_of (value_numbers x) ≡ x
value-back (Ok x) = refl
value-back (Err why) = rw (refusal-back why).1 (ap Err (refusal-back why).0)

pub unpacked-back : (x : Result Lengths Refusal) → unpacked_of (unpacked_numbers x) ≡ x
unpacked-back (Ok x) = refl
unpacked-back (Err why) = rw (refusal-back why).1 (ap Err (refusal-back why).0)
