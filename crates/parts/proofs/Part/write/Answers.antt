-- Each mode's bytes are stored at the front. Assumes nothing.
use Rattle.std.proofs.Common.{◌≡◌, ◌∷◌, ◌-◌, ◌∙◌, length, set, arith, length-set, length-take, length-drop}
use Rattle.slices.specs.Bytes.{Bytes}
use Rattle.slices.proofs.Sets.{sets-mid}
use Rattle.encoding.specs.Encoding.{form_of, first_byte, encoded}
use Rattle.encoding.proofs.Laws.{tag-bytes}
use Rattle.parts.specs.declared.Mode.{Mode}
use Rattle.parts.specs.declared.Mode.TheVariants.{Raw, Tag}
use Rattle.parts.specs.Parts.{bytes_of}
use Rattle.parts.proofs.Laws.{sets-front}
use Rattle.parts.proofs.Part.write.Goals as goal

raw : {m : Mode} (s : Bytes) → m ≡ Raw → bytes_of m s ≡ s
unfolding bytes_of
raw s e = rw e

tag : {m : Mode} (s : Bytes) → m ≡ Tag → bytes_of m s ≡ first_byte s ∷ encoded (form_of s) s
unfolding bytes_of
tag s e = rw e (tag-bytes s)

pub write_raw-requires : goal.write_raw-requires
write_raw-requires c = rw (raw c.args.self.bytes.now c.in-Raw.is) at c.requires

pub bounds-dst-0 : goal.bounds-dst-0
bounds-dst-0 c = omega (arith, rw (tag c.args.self.bytes.now c.in-Tag.is) at c.requires)

pub slice_bounds-write_encoded-count : goal.slice_bounds-write_encoded-count
slice_bounds-write_encoded-count c =
    let r = rw (tag c.args.self.bytes.now c.in-Tag.is) at c.requires in
    simp length-set (omega arith)

pub slice_bounds-write_encoded-start : goal.slice_bounds-write_encoded-start
slice_bounds-write_encoded-start c =
    let r = rw (tag c.args.self.bytes.now c.in-Tag.is) at c.requires in
    simp length-set (omega arith)

pub write_encoded-requires : goal.write_encoded-requires
write_encoded-requires c =
    let r = rw (tag c.args.self.bytes.now c.in-Tag.is) at c.requires in
    rw c.of.ensures (simp (length-take, length-drop, length-set) (omega arith))

pub returns-in-Raw : goal.returns-in-Raw
returns-in-Raw c =
    let r = rw (raw c.args.self.bytes.now c.in-Raw.is) at c.requires in
    rw (raw c.args.self.bytes.now c.in-Raw.is) (c.write_raw.ensures ∙ sets-front c.args.self.bytes.now c.args.dst.now r)

pub returns-in-Tag : goal.returns-in-Tag
returns-in-Tag c =
    let s = c.args.self.bytes.now in
    let r = rw (tag s c.in-Tag.is) at c.requires in
    let e = rw (c.of.ensures, c.first_byte.ensures) at c.write_encoded.ensures in
    let d = set c.args.dst.now 0 (first_byte s) in
    rw (tag s c.in-Tag.is, e, c.first_byte.ensures)
    (sets-mid (encoded (form_of s) s) d 1 (length d - 1) (simp length-set (omega arith)) (simp length-set (omega arith))
    ∙ sets-front (first_byte s ∷ encoded (form_of s) s) c.args.dst.now r)
