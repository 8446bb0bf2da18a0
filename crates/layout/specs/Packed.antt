-- The words that are taken apart into a type of the code. Assumes nothing.
use Rattle.std.specs.Prelude.{ℕ, ◌-◌, ◌/◌, ◌%◌, cond, eqb, Option, Some, None}
use Rattle.layout.specs.declared.packed.BlockOwner.{BlockOwner}

-- Whose a global block is, by its word; none of a free one.
abbrev pub block_owner : ℕ → Option BlockOwner
block_owner w = cond (eqb w 0) None (Some (record { kind = (w - 1) % 16; block = (w - 1) / 16 }))
