-- The answer and the buffer at each end of unpacking. Assumes nothing.
use Prim.Native.Nat.{◌+◌, ◌≤◌, ◌<◌}
use mathlib.Core.Path.{◌≡◌, refl}
use mathlib.Core.Bool.{true, false}
use mathlib.Core.List.{◌++◌}
use Rattle.std.specs.Prelude.{Err}
use lib.ListN.{length, drop}
use borrow.Author.Tests.{lt-ltb, le-ltb}
use Rattle.slices.specs.Bytes.{Bytes}
use Rattle.layout.specs.Sizes.{packed_limit}
use Rattle.refusals.specs.declared.Refusal.TheVariants.{TooLong, ShortBuffer, CutForm}
use Rattle.string_dv_dict_split.specs.Forms.{accepted, text_in, tag_in}
use Rattle.string_dv_dict_unpack.specs.Answers.{unpacked_as, unpack_answer, unpack_buffer}

module _ (form buffer : Bytes) where
  pub unpack-long-form : packed_limit < length form
      → (unpack_answer form (length buffer) ≡ Err TooLong) × (unpack_buffer form buffer ≡ buffer)
  unfolding unpack_answer unpack_buffer
  unpack-long-form h = rw (lt-ltb _ _ h) (refl, refl)

  module _ (l : length form ≤ packed_limit) where
    pub unpack-cut : accepted form ≡ false
        → (unpack_answer form (length buffer) ≡ Err CutForm) × (unpack_buffer form buffer ≡ buffer)
    unfolding unpack_answer unpack_buffer
    unpack-cut e = rw (le-ltb _ _ l, e) (refl, refl)

    pub unpack-no-room : accepted form ≡ true → length buffer < length (text_in form) + length (tag_in form)
        → (unpack_answer form (length buffer) ≡ Err ShortBuffer) × (unpack_buffer form buffer ≡ buffer)
    unfolding unpack_answer unpack_buffer
    unpack-no-room e h = rw (le-ltb _ _ l, e, lt-ltb _ _ h) (refl, refl)

    pub unpack-done : accepted form ≡ true → length (text_in form) + length (tag_in form) ≤ length buffer
        → (unpack_answer form (length buffer) ≡ unpacked_as (length (text_in form)) (length (tag_in form)))
        × (unpack_buffer form buffer ≡ (text_in form ++ tag_in form) ++ drop (length (text_in form ++ tag_in form)) buffer)
    unfolding unpack_answer unpack_buffer
    unpack-done e h = rw (le-ltb _ _ l, e, le-ltb _ _ h) (refl, refl)
