-- What initialisation leaves in `lists`: a dictionary with no entry. Assumes nothing.
use Rattle.std.specs.Prelude.{replicate}
use Rattle.std.proofs.lemmas.List.Edits.{sets}
use Rattle.slices.specs.Bytes.{Bytes}
use Rattle.words.specs.Words.{set_word}
use Rattle.layout.specs.declared.Sizes.{Sizes}
use Rattle.layout.specs.Sizes.{list_bytes}
use Rattle.layout.specs.Fields.{format}

-- `lists` with all bytes that the sizes need set to zero. The bytes beyond stay as found.
abbrev pub zeroed : Sizes → Bytes → Bytes
zeroed s lists = sets lists 0 (replicate (list_bytes s) 0)

-- The same, with the format and the sizes in the first six words.
unfoldable pub opened_lists : Sizes → Bytes → Bytes
opened_lists s lists =
    set_word (set_word (set_word (set_word (set_word (set_word (zeroed s lists) 0 format) 1 s.p) 2 s.n) 3 s.e) 4 s.w) 5 s.b
