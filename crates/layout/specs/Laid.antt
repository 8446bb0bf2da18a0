-- The sizes of a layout. Assumes nothing.
use Rattle.std.specs.Prelude.{Option, Some, None}
use Rattle.layout.specs.declared.Sizes.{Sizes}
use Rattle.layout.specs.declared.lent.Layout.{Layout}

abbrev pub laid : Option Layout → Option Sizes
laid (Some x) = Some x.sizes
laid None = None
