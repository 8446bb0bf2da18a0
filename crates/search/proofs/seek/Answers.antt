-- A string is searched by its key, any other name by its head and its rest. Assumes nothing.
use Rattle.std.proofs.Common.{sym, ap, ◌∙◌}
use Rattle.layout.specs.Sizes.{limit}
use Rattle.layout.specs.Numbers.{kind_number}
use Rattle.model.specs.Kinds.{has_heads}
use Rattle.model.proofs.Legal.{legal-shape}
use Rattle.names.specs.Given.{given}
use Rattle.names.proofs.Second.{shape-second}
use Rattle.names.proofs.Pairs.{rest-short}
use Rattle.search.proofs.Ascii.{pair-ascii}
use Rattle.search.proofs.seek.Goals as goal

pub find_pair-requires : goal.find_pair-requires
find_pair-requires c =
    let n = c.args.name.now in
    let l = (legal-shape _ _ c.requires).size in (
      sym (c.has_heads.ensures ∙ ap has_heads c.of.ensures.way) ∙ c.if-not-has_heads.false,
      rest-short (kind_number n.kind) n.first.now n.second.now _ c.head_length-n.result (limit c.args.memory.now.lists.layout.sizes) c.rest_behind-rest.ensures l,
    )

pub returns-clause-ascii : goal.returns-clause-ascii
returns-clause-ascii c =
    let n = c.args.name.now in
    λ q.
    pair-ascii (kind_number n.kind) n.first.now n.second.now _ c.head_length-n.result c.head_length-n.ensures.0 c.head_length-n.ensures.1 c.rest_behind-rest.ensures
    (shape-second c.args.memory.now.lists.layout.sizes (given n) c.requires)
    (c.find_pair.ensures.ascii q)
