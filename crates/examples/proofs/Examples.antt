-- All the examples hold, computed together. Assumes nothing.
use mathlib.Core.Path.{refl}
use Rattle.layout.specs.Sizes.{name_limit, limit}
use Rattle.utf8.specs.Text.{first_of, is_text}
use Rattle.encoding.specs.Encoding.{escape, escaped}
use Rattle.ranked_pair_iri_dv_dict.specs.Split.{head_of}
use Rattle.ranked_pair_dictionary.specs.FrequentId.{further_bytes, frequent_id, fid, write_refusal, write_fid_answer, write_fid_buffer}
use Rattle.string_dv_dict.specs.Packed.{packed, pair_refusal}
use Rattle.string_dv_dict.specs.Answers.{pack_answer, pack_buffer}
use Rattle.bytes_buffer.specs.Pages.{fits, grown, grown_at, all_pages}
use Rattle.blocks.specs.Rule.{block_rule}
use Rattle.blocks.specs.Blocks.{pick}
use Rattle.model.specs.State.{number_of}
use Rattle.model.specs.Steps.{shape_refusal, text_refusal, checks, room, decide, extended}
use Rattle.examples.specs.Examples.{Examples}

pub examples : Examples
unfolding name_limit limit block_rule first_of is_text escape escaped head_of further_bytes frequent_id fid write_refusal write_fid_answer write_fid_buffer packed pair_refusal pack_answer pack_buffer fits grown grown_at all_pages pick number_of shape_refusal text_refusal checks room decide extended
examples = record {
  m1-m3 = refl;
  m1-m2-rests = refl;
  m4 = refl;
  m5 = refl;
  m5-answers = refl;
  m5-number = refl;
  m6 = refl;
  m7 = refl;
  m7-answer = refl;
  m8 = refl;
  m9-m11 = refl;
  m11-number = refl;
  m9-m11-answers = refl;
}
