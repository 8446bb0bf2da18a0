-- Which bytes a slice with a mode stands for. Assumes nothing.
use Rattle.slices.specs.Bytes.{Bytes}
use Rattle.encoding.specs.Encoding.{tag_bytes}
use Rattle.parts.specs.declared.Mode.{Mode}
use Rattle.parts.specs.declared.Mode.TheVariants.{Raw, Tag}
use Rattle.parts.specs.declared.Part.{Part}

unfoldable pub bytes_of : Mode → Bytes → Bytes
bytes_of Raw s = s
bytes_of Tag s = tag_bytes s

-- The stored bytes of a part.
abbrev pub part_bytes : Part → Bytes
part_bytes part = bytes_of part.mode part.bytes.now
