-- The calls' writes one after the other. Assumes nothing.
use mathlib.Core.Path.{ap}
use Rattle.std.proofs.Common.{◌∙◌}
use Rattle.commit.specs.Written.{name_pages, name_lists}
use Rattle.commit.proofs.commit.Goals as goal

pub returns-clause-pages : goal.returns-clause-pages
unfolding name_pages
returns-clause-pages c = rw c.insert_head.ensures.pages at c.insert.ensures.pages

pub returns-clause-lists : goal.returns-clause-lists
unfolding name_lists
returns-clause-lists c =
    c.take_block.ensures ∙ rw (c.insert.ensures.lists, c.args.w.now.main, c.insert_head.ensures.lists)

pub returns-clause-answer : goal.returns-clause-answer
returns-clause-answer c = ap (λ x. x.0) c.number_in.ensures
