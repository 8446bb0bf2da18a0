-- The rest is written behind the front.
use Rattle.parts.specs.Parts.{part_bytes}
use Rattle.bytes_entry.proofs.Keys.{put-tail}
use Rattle.bytes_entry.proofs.write_tail.Goals as goal

pub returns : goal.returns
returns c =
    let a = c.args in
    rw c.write-2.ensures
    (put-tail a.tail.now _ (part_bytes a.parts.now.front) (part_bytes a.parts.now.rest) _ c.write.ensures c.measure-m.ensures c.requires)
