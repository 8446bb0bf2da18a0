-- The five tests are those of `in_range`, in its order. Where one fails, those before it held.
use Rattle.std.proofs.Common.{rules}
use Rattle.layout.specs.Sizes.{in_range, made}
use Rattle.layout.proofs.Sizes.new.Goals as goal
use Rattle.layout.proofs.Sizes.new.Goals.{else-is_within-via-then-is_within+then-is_within-2+then-is_within-3+then-is_within-4+else-is_within-5, else-is_within-via-then-is_within+then-is_within-2+then-is_within-3+else-is_within-4, else-is_within-via-then-is_within+then-is_within-2+else-is_within-3, else-is_within-via-then-is_within+else-is_within-2, else-is_within-via-else-is_within}

pub returns-then-is_within-5 : goal.returns-then-is_within-5
unfolding in_range made
returns-then-is_within-5 c = search rules

pub returns : goal.returns
unfolding in_range made
returns c =
    elim c.else-is_within.branch [
      | else-is_within-via-then-is_within+then-is_within-2+then-is_within-3+then-is_within-4+else-is_within-5 w ↦ search rules
      | else-is_within-via-then-is_within+then-is_within-2+then-is_within-3+else-is_within-4 w ↦ search rules
      | else-is_within-via-then-is_within+then-is_within-2+else-is_within-3 w ↦ search rules
      | else-is_within-via-then-is_within+else-is_within-2 w ↦ search rules
      | else-is_within-via-else-is_within w ↦ search rules
    ]
