-- The bytes that a piece of a form stands for, and the form that a split has. Assumes nothing.
use Rattle.std.specs.Prelude.{◌≡◌, false, length, Option, Some, None}
use Rattle.slices.specs.Bytes.{Bytes}
use Rattle.encoding.specs.Encoding.{escaped}
use Rattle.string_dv_dict_split.specs.declared.Form.{Form}
use Rattle.string_dv_dict_split.specs.declared.Form.TheVariants.{Short, Long}
use Rattle.string_dv_dict_split.specs.declared.forms.Piece.{Piece}
use Rattle.string_dv_dict_split.specs.declared.forms.Piece.TheVariants.{Raw, Escaped}
use Rattle.string_dv_dict_split.specs.declared.forms.Split.{Split}
use Rattle.string_dv_dict_split.specs.Forms.{unescaped, tag_in}
use Rattle.string_dv_dict_split.specs.Scans.{split_of}

-- The escapes are undone.
abbrev pub piece_bytes : Piece → Bytes
piece_bytes (Raw s) = s.now
piece_bytes (Escaped s) = unescaped false s.now

-- A short form's tag stands there as it is, and a long form's escaped.
abbrev pub StandsIn : Bytes → Piece → Type 0
StandsIn form (Raw s) = split_of form ≡ Some (Short (length s.now))
StandsIn form (Escaped s) = (split_of form ≡ Some (Long (length s.now) (length (tag_in form)))) × (s.now ≡ escaped (tag_in form))

abbrev pub formed : Option Split → Option Form
formed (Some x) = Some x.form
formed None = None
