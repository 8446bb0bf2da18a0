-- Both words lie in lists, and what is written is what specs/ has.
use Rattle.std.proofs.Common.{◌/◌, ◌<◌, arith}
use Rattle.blocks.proofs.Tables.{local-inside, global-inside}
use Rattle.blocks.proofs.Answers.{written_is}
use Rattle.blocks.proofs.take_block.Goals as goal

pub overflow_add-blocks_at : goal.overflow_add-blocks_at
overflow_add-blocks_at c =
    let l : c.args.local.0 / c.block_size.result < c.args.layout.now.sizes.b = rw c.block_size.ensures.0 c.requires.1 in
    omega (arith, local-inside c.args.layout.now.sizes _ _ _ _ c.requires.0 c.from-k.ensures.1 l c.blocks_at.ensures)

pub put_number-requires-clause-within : goal.put_number-requires-clause-within
put_number-requires-clause-within c =
    let l : c.args.local.0 / c.block_size.result < c.args.layout.now.sizes.b = rw c.block_size.ensures.0 c.requires.1 in
    local-inside c.args.layout.now.sizes _ _ _ _ c.requires.0 c.from-k.ensures.1 l c.blocks_at.ensures

pub overflow_add-blocks_at-2 : goal.overflow_add-blocks_at-2
overflow_add-blocks_at-2 c = omega (arith, global-inside c.args.layout.now.sizes c.args.g _ _ c.requires.0 c.requires.2 c.blocks_at-2.ensures)

pub put_number-requires-2-clause-within : goal.put_number-requires-2-clause-within
put_number-requires-2-clause-within c = omega (arith, global-inside c.args.layout.now.sizes c.args.g _ _ c.requires.0 c.requires.2 c.blocks_at-2.ensures)

pub returns : goal.returns
returns c =
    let a = c.args in
    rw (← c.from-k.ensures.0)
    (written_is a.layout.now.sizes a.lists.now c.from-k.result a.local.0 a.g c.block_size.result
    c.block_size.ensures.0 c.blocks_at.ensures c.blocks_at-2.ensures c.put_number.ensures (rw c.word.ensures at c.put_number-2.ensures))
