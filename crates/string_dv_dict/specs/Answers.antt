-- What packing answers and leaves in the buffer. The refusals are in document 01's order: 5, 6, 7, 11. Assumes nothing.
use Rattle.std.specs.Prelude.{ℕ, cond, ltb, length, Result}
use Rattle.std.proofs.Math.Option.{Option, none, some}
use Rattle.slices.specs.Bytes.{Bytes}
use Rattle.refusals.specs.declared.Refusal.{Refusal}
use Rattle.refusals.specs.declared.Refusal.TheVariants.{ShortBuffer}
use Rattle.refusals.specs.Written.{written_by, placed_by}
use Rattle.string_dv_dict.specs.Packed.{packed, pair_refusal}

abbrev pub with_room : Bytes → ℕ → Option Refusal → Option Refusal
with_room form room none = cond (ltb room (length form)) (some ShortBuffer) none
with_room form room (some why) = some why

abbrev pub pack_refusal : Bytes → Bytes → ℕ → Option Refusal
pack_refusal text tag room = with_room (packed text tag) room (pair_refusal text tag)

unfoldable pub pack_answer : Bytes → Bytes → ℕ → Result ℕ Refusal
pack_answer text tag room = written_by (packed text tag) (pack_refusal text tag room)

unfoldable pub pack_buffer : Bytes → Bytes → Bytes → Bytes
pack_buffer text tag buffer = placed_by (packed text tag) buffer (pack_refusal text tag (length buffer))
