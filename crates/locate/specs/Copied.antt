-- The bytes of a located name. Assumes nothing.
use Rattle.std.specs.Prelude.{◌++◌}
use Rattle.slices.specs.Bytes.{Bytes}
use Rattle.string_dv_dict_split.specs.Pieces.{piece_bytes}
use Rattle.locate.specs.declared.pieces.Pieces.{Pieces}

-- Both pieces, one after the other.
abbrev pub pieces_in : Pieces → Bytes
pieces_in x = x.front.now ++ piece_bytes x.back
