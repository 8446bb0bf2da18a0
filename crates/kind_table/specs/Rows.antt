-- The code's table of kinds: its rows are those of the model's table, and what a way says of the parts. Assumes nothing.
use Rattle.std.specs.Prelude.{◌≡◌, Bool, true, false}
use Rattle.layout.specs.Numbers.{dictionary_number}
use Rattle.parts.specs.declared.Mode.{Mode}
use Rattle.parts.specs.declared.Mode.TheVariants.{Raw, Tag}
use Rattle.model.specs.Kinds.{Way, splits, whole, packs, pairs, Kind}
use Rattle.kind_table.specs.declared.Way as Code
use Rattle.kind_table.specs.declared.Way.TheVariants as Ways
use Rattle.kind_table.specs.declared.Row as Held

-- The code's name of a way.
abbrev pub way_of : Code.Way → Way
way_of Ways.Splits = splits
way_of Ways.Whole = whole
way_of Ways.Packs = packs
way_of Ways.Pairs = pairs

-- The code's row is that of the table.
pub record IsRow (x : Kind) (r : Held.Row) : Type 0 where
  pub no_second : r.no_second ≡ x.no_second
  pub needs_tag : r.needs_tag ≡ x.needs_tag
  pub heads_at : dictionary_number r.heads ≡ x.heads_at
  pub main_at : dictionary_number r.main ≡ x.main_at
  pub way : way_of r.way ≡ x.way

-- Does the first part split into head and rest?
abbrev pub is_split : Way → Bool
is_split splits = true
is_split whole = false
is_split packs = false
is_split pairs = false

-- How the second part is stored in front of the first, where there are no heads: a tag in its form.
abbrev pub front_mode : Way → Mode
front_mode splits = Raw
front_mode whole = Raw
front_mode packs = Tag
front_mode pairs = Raw
