-- Slices that are long enough for the sizes. Assumes nothing.
use Rattle.std.specs.Prelude.{◌≤◌, length}
use Rattle.slices.specs.Bytes.{Bytes}
use Rattle.layout.specs.declared.Sizes.{Sizes}
use Rattle.layout.specs.Sizes.{page_bytes, list_bytes}

-- What a writer asks of the two slices that it is lent.
pub record Fit (s : Sizes) (pages lists : Bytes) : Type 0 where
  pub pages-fit : page_bytes s ≤ length pages
  pub lists-fit : list_bytes s ≤ length lists
