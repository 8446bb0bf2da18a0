-- The numbers that an exported leaf rule answers for each answer of the library: a refusal's number with zeros, or 0 and the values. Assumes nothing.
use Rattle.std.specs.Prelude.{ℕ, Bool, true, false, Result, Ok, Err}
use Rattle.refusals.specs.Numbers.{refusal_number}
use Rattle.refusals.specs.declared.Refusal.{Refusal}
use Rattle.ranked_pair_dictionary.specs.declared.FrequentId.{FrequentId}
use Rattle.string_dv_dict_unpack.specs.declared.Lengths.{Lengths}
use Rattle.leaf_numbers.specs.declared.NamedictWritten.{NamedictWritten}
use Rattle.leaf_numbers.specs.declared.NamedictValue.{NamedictValue}
use Rattle.leaf_numbers.specs.declared.NamedictUnpacked.{NamedictUnpacked}

-- 1 yes, 0 no.
abbrev pub yes_no : Bool → ℕ
yes_no true = 1
yes_no false = 0

abbrev pub written_numbers : Result ℕ Refusal → NamedictWritten
written_numbers (Ok n) = record { refusal = 0; length = n }
written_numbers (Err why) = record { refusal = refusal_number why; length = 0 }

abbrev pub value_numbers : Result FrequentId Refusal → NamedictValue
value_numbers (Ok x) = record { refusal = 0; value = x.value; length = x.length }
value_numbers (Err why) = record { refusal = refusal_number why; value = 0; length = 0 }

abbrev pub unpacked_numbers : Result Lengths Refusal → NamedictUnpacked
unpacked_numbers (Ok x) = record { refusal = 0; text_len = x.text; tag_len = x.tag }
unpacked_numbers (Err why) = record { refusal = refusal_number why; text_len = 0; tag_len = 0 }
