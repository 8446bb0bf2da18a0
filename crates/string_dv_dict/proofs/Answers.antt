-- The answer and the buffer at each end of packing. Assumes nothing.
use Prim.Native.Nat.{◌≤◌, ◌<◌}
use mathlib.Core.Path.{◌≡◌, refl}
use mathlib.Core.List.{◌++◌}
use mathlib.Core.Option.{none, some}
use lib.ListN.{length, drop}
use borrow.Author.Tests.{lt-ltb, le-ltb}
use Rattle.slices.specs.Bytes.{Bytes}
use Rattle.refusals.specs.declared.Refusal.{Refusal}
use Rattle.refusals.specs.declared.Refusal.TheVariants.{ShortBuffer}
use Rattle.std.specs.Prelude.{Ok, Err}
use Rattle.string_dv_dict.specs.Packed.{packed, pair_refusal}
use Rattle.string_dv_dict.specs.Answers.{pack_answer, pack_buffer}

module _ (text tag buffer : Bytes) where
  pub pack-refused : (why : Refusal) → pair_refusal text tag ≡ some why
      → (pack_answer text tag (length buffer) ≡ Err why) × (pack_buffer text tag buffer ≡ buffer)
  unfolding pack_answer pack_buffer
  pack-refused why e = rw e (refl, refl)

  pub pack-no-room : pair_refusal text tag ≡ none → length buffer < length (packed text tag)
      → (pack_answer text tag (length buffer) ≡ Err ShortBuffer) × (pack_buffer text tag buffer ≡ buffer)
  unfolding pack_answer pack_buffer
  pack-no-room e h = rw (e, lt-ltb _ _ h) (refl, refl)

  pub pack-done : pair_refusal text tag ≡ none → length (packed text tag) ≤ length buffer
      → (pack_answer text tag (length buffer) ≡ Ok (length (packed text tag)))
      × (pack_buffer text tag buffer ≡ packed text tag ++ drop (length (packed text tag)) buffer)
  unfolding pack_answer pack_buffer
  pack-done e h = rw (e, le-ltb _ _ h) (refl, refl)
