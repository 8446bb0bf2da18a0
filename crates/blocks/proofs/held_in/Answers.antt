-- The tests are those of the word that specs/ has.
use Rattle.std.proofs.Common.{sym, arith}
use Rattle.blocks.proofs.Tables.{local-inside}
use Rattle.blocks.proofs.Answers.{held_none, held-past, held-there}
use Rattle.blocks.proofs.held_in.Goals as goal

pub overflow_add-at : goal.overflow_add-at
overflow_add-at c = omega (arith, local-inside _ _ c.args.l _ _ c.args.lists.now.fit c.from.ensures.1 c.requires c.blocks_at-at.ensures)

pub number_at-x-requires-clause-within : goal.number_at-x-requires-clause-within
number_at-x-requires-clause-within c = local-inside _ _ c.args.l _ _ c.args.lists.now.fit c.from.ensures.1 c.requires c.blocks_at-at.ensures

pub returns-then-x-eq0 : goal.returns-then-x-eq0
returns-then-x-eq0 c = rw (← c.from.ensures.0, ← c.blocks_at-at.ensures, ← c.number_at-x.ensures) (sym (held_none _ _ c.if-x-eq0.true))

pub returns-then-lists-x : goal.returns-then-lists-x
returns-then-lists-x c = rw (← c.from.ensures.0, ← c.blocks_at-at.ensures, ← c.number_at-x.ensures) (sym (held-past _ _ c.if-lists-x.true))

pub returns : goal.returns
returns c = rw (← c.from.ensures.0, ← c.blocks_at-at.ensures, ← c.number_at-x.ensures) (sym (held-there _ _ c.if-x-eq0.false c.if-lists-x.false))
