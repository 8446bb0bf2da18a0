-- The answer of an exported leaf rule, computed back from the numbers that it returned. The split's is `head_from` of ranked_pair_iri_dv_dict. Assumes nothing.
use Rattle.std.specs.Prelude.{ℕ, Bool, cond, eqb, Result, Ok, Err}
use Rattle.refusals.specs.Numbers.{refusal_of}
use Rattle.refusals.specs.declared.Refusal.{Refusal}
use Rattle.ranked_pair_dictionary.specs.declared.FrequentId.{FrequentId}
use Rattle.string_dv_dict_unpack.specs.declared.Lengths.{Lengths}
use Rattle.leaf_numbers.specs.declared.NamedictWritten.{NamedictWritten}
use Rattle.leaf_numbers.specs.declared.NamedictValue.{NamedictValue}
use Rattle.leaf_numbers.specs.declared.NamedictUnpacked.{NamedictUnpacked}

abbrev pub yes_of : ℕ → Bool
yes_of n = eqb n 1

abbrev pub written_of : NamedictWritten → Result ℕ Refusal
written_of r = cond (eqb r.refusal 0) (Ok r.length) (Err (refusal_of r.refusal))

abbrev pub value_of : NamedictValue → Result FrequentId Refusal
value_of r = cond (eqb r.refusal 0) (Ok (record { value = r.value; length = r.length })) (Err (refusal_of r.refusal))

abbrev pub unpacked_of : NamedictUnpacked → Result Lengths Refusal
unpacked_of r = cond (eqb r.refusal 0) (Ok (record { text = r.text_len; tag = r.tag_len })) (Err (refusal_of r.refusal))
