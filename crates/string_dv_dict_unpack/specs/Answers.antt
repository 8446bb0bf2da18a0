-- What unpacking answers and leaves in the buffer. The refusals are in document 01's order: 5, 13, 11. Assumes nothing.
use Rattle.std.specs.Prelude.{ℕ, ◌+◌, not, cond, ◌++◌, ltb, length, Result, Ok, Err}
use Rattle.std.proofs.Math.Option.{Option, none, some}
use Rattle.slices.specs.Bytes.{Bytes}
use Rattle.layout.specs.Sizes.{packed_limit}
use Rattle.refusals.specs.declared.Refusal.{Refusal}
use Rattle.refusals.specs.declared.Refusal.TheVariants.{TooLong, ShortBuffer, CutForm}
use Rattle.refusals.specs.Written.{placed_by}
use Rattle.string_dv_dict_split.specs.Forms.{accepted, text_in, tag_in}
use Rattle.string_dv_dict_unpack.specs.declared.Lengths.{Lengths}

abbrev pub unpack_refusal : Bytes → ℕ → Option Refusal
unpack_refusal form room =
    cond (ltb packed_limit (length form)) (some TooLong)
    (cond (not (accepted form)) (some CutForm)
    (cond (ltb room (length (text_in form) + length (tag_in form))) (some ShortBuffer) none))

-- A text of m bytes and a tag of n bytes.
abbrev pub unpacked_as : ℕ → ℕ → Result Lengths Refusal
unpacked_as m n = Ok (record { text = m; tag = n })

abbrev pub unpacked_by : Bytes → Bytes → Option Refusal → Result Lengths Refusal
unpacked_by text tag none = unpacked_as (length text) (length tag)
unpacked_by text tag (some why) = Err why

unfoldable pub unpack_answer : Bytes → ℕ → Result Lengths Refusal
unpack_answer form room = unpacked_by (text_in form) (tag_in form) (unpack_refusal form room)

-- Text before tag.
unfoldable pub unpack_buffer : Bytes → Bytes → Bytes
unpack_buffer form buffer = placed_by (text_in form ++ tag_in form) buffer (unpack_refusal form (length buffer))
