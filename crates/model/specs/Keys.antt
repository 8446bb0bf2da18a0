-- What a kind's main dictionary holds, and how a name is found in it. Assumes nothing.
use Rattle.std.specs.Prelude.{ℕ, cond, List, [], ◌∷◌}
use Rattle.std.proofs.Math.Option.{Option, none}
use Rattle.slices.specs.Bytes.{Bytes}
use Rattle.model.specs.Names.{Name}
use Rattle.model.specs.State.{Stamped, Part, entry_number}
use Rattle.model.specs.Steps.{new_head, key_of}

-- The main entries, newest first.
abbrev pub keys_of : List Bytes → List Stamped → List Bytes
keys_of hs [] = []
keys_of hs (x ∷ xs) = key_of hs x.name ∷ keys_of hs xs

-- The local number that the dictionaries give: none where the head is not stored, else the key's.
abbrev pub looked_up : Name → Part → Option ℕ
looked_up a pt = cond (new_head a pt) none (entry_number (key_of pt.heads a) (keys_of pt.heads pt.names))
