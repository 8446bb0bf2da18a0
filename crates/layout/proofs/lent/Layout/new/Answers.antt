-- The sizes that the constructor makes are in their ranges.
use Rattle.std.proofs.Common.{sym, rules}
use Rattle.layout.proofs.Ranges.{ranged, made-fit}
use Rattle.layout.proofs.lent.Layout.new.Goals as goal

pub invariant_of-result : goal.invariant_of-result
invariant_of-result c = let p = made-fit _ _ (sym c.in_ok-sizes.ensures) in record { in_range = rw (sym p.0) (ranged _ p.1) }

pub returns-in_err-sizes : goal.returns-in_err-sizes
returns-in_err-sizes c = search rules

pub returns : goal.returns
returns c = search rules
