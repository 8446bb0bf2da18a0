-- A list of calls over lent memory, from an open that answered done. Assumes nothing.
use Rattle.std.specs.Prelude.{List}
use Rattle.slices.specs.Bytes.{Bytes}
use Rattle.layout.specs.declared.Sizes.{Sizes}
use Rattle.model.specs.Answers.{OpenAnswer}
use Rattle.model.specs.Calls.{Event}
use Rattle.memory.specs.Promises.{OpenPost}
use Rattle.memory.specs.Lists.{Memory, Brought}

-- The open was of the sizes s and left `begun`; then came the calls es, and they left `left`.
pub record Opened (s : Sizes) (es : List Event) : Type 0 where
  pub pages : Bytes
  pub lists : Bytes
  pub begun : Memory
  pub opens : OpenPost s pages lists OpenAnswer.done begun.pages begun.lists
  pub left : Memory
  pub calls : Brought s begun es left
