-- Which bytes a key has. Assumes nothing.
use Rattle.slices.specs.Bytes.{Bytes}
use Rattle.bytes_key.specs.Keys.{key_bytes}
use Rattle.bytes_key.specs.declared.Parts.{Parts}
use Rattle.bytes_key.specs.declared.Key.{Key}

abbrev pub stored : Parts → Bytes
stored x = key_bytes x.front.mode x.front.bytes.now x.rest.mode x.rest.bytes.now

abbrev pub bytes_in : Key → Bytes
bytes_in key = stored key.parts
