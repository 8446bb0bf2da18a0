-- The hash of each mode's bytes. Assumes nothing.
use Rattle.fnv.specs.Fnv.{fnv_from}
use Rattle.encoding.proofs.Laws.{tag-bytes}
use Rattle.parts.specs.Parts.{bytes_of}
use Rattle.parts.proofs.Part.hash_on.Goals as goal

pub returns-in-Tag : goal.returns-in-Tag
unfolding bytes_of fnv_from
returns-in-Tag c =
    rw (c.in-Tag.is, tag-bytes c.args.self.bytes.now)
    (rw (c.fnv_step-h.ensures, c.first_byte.ensures, c.of.ensures) at c.hash_encoded.ensures)
