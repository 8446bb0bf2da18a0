-- A packed form is the stored tag, followed by the text. Assumes nothing.
use Prim.Native.Nat.{ℕ, ◌+◌, ◌-◌, ◌≤◌}
use mathlib.Core.Path.{◌≡◌, sym, ap}
use mathlib.Core.Logic.{inl, inr}
use mathlib.Core.List.{[], ◌∷◌, ◌++◌, append_assoc}
use lib.Dec.{leb}
use lib.ListN.{length, take, drop, length-append}
use Rattle.slices.specs.Bytes.{Bytes}
use Rattle.slices.proofs.Tests.{Split, split}
use Rattle.parts.specs.declared.Mode.TheVariants.{Tag}
use Rattle.encoding.specs.Encoding.{escaped, tag_bytes}
use Rattle.parts.specs.Parts.{bytes_of}
use Rattle.string_dv_dict.specs.Packed.{packed}
use Rattle.string_dv_dict.proofs.Writes.{two-written}

pub packed-key : (text tag : Bytes) → packed text tag ≡ bytes_of Tag tag ++ text
unfolding packed tag_bytes bytes_of
packed-key text tag = go (split (leb (length tag) 127))
  where
    go : Split (leb (length tag) 127) → packed text tag ≡ bytes_of Tag tag ++ text
    go (inl p) = rw p
    go (inr p) = rw p (ap (λ (s : Bytes). 0 ∷ s) (sym (append_assoc (escaped tag) (62 ∷ []) text)))

pub length-tagged-key : (text tag : Bytes) → length (tag_bytes tag) + length text ≡ length (packed text tag)
unfolding bytes_of
length-tagged-key text tag = rw (packed-key text tag) (sym (length-append (tag_bytes tag) text))

-- Both written from a buffer's start, one behind the other.
pub placed-key : (text tag b d s : Bytes) (at : ℕ) → length (tag_bytes tag) + length text ≤ length b → at ≡ length (tag_bytes tag)
    → d ≡ tag_bytes tag ++ drop (length (tag_bytes tag)) b
    → s ≡ text ++ drop (length text) (take (length d - at) (drop at d))
    → take at d ++ (s ++ drop (length d - at) (drop at d)) ≡ packed text tag ++ drop (length (packed text tag)) b
unfolding bytes_of
placed-key text tag b d s at h a e f = rw (packed-key text tag) (two-written (tag_bytes tag) text b d s at h a e f)
