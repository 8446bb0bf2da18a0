-- The kind's number has the row of the number that was given.
use Rattle.kind_table.proofs.Rows.{row-or_plain}
use Rattle.kind_table.proofs.kind_or_plain.Goals as goal

pub returns : goal.returns
returns c = rw (c.unwrap_or.ensures, c.try_from.ensures) (row-or_plain c.args.number)
