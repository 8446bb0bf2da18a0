-- The length of each mode's bytes. Assumes nothing.
use Rattle.std.proofs.Common.{◌≡◌, ◌+◌, length, arith}
use Rattle.slices.specs.Bytes.{Bytes}
use Rattle.encoding.specs.Encoding.{form_of, encoded}
use Rattle.encoding.proofs.Laws.{tag-bytes}
use Rattle.parts.specs.declared.Mode.TheVariants.{Tag}
use Rattle.parts.specs.Parts.{bytes_of}
use Rattle.parts.proofs.Part.measure.Goals as goal

length-tag : (s : Bytes) → length (bytes_of Tag s) ≡ 1 + length (encoded (form_of s) s)
unfolding bytes_of
length-tag s = rw (tag-bytes s) (omega arith)

pub overflow_add-result : goal.overflow_add-result
overflow_add-result c =
    let e = rw c.of.ensures at c.measure_encoded.ensures in
    let r = rw c.in-Tag.is at c.requires in
    omega (arith, length-tag c.args.self.bytes.now)

pub returns-in-Tag : goal.returns-in-Tag
returns-in-Tag c =
    let e = rw c.of.ensures at c.measure_encoded.ensures in
    rw c.in-Tag.is (omega (arith, length-tag c.args.self.bytes.now))
