-- Each word that the search asks for lies in lists, and the answer is the first that is 0.
use Rattle.std.proofs.Common.{◌≡◌, ◌≢◌, ◌+◌, rules, tests, arith}
use Rattle.std.proofs.lemmas.Iterator.{first_from_Range, serves_from_Range}
use Rattle.words.specs.Words.{word_at}
use Rattle.blocks.proofs.Search.{first-found}
use Rattle.blocks.proofs.Tables.{global-inside}
use Rattle.blocks.proofs.first_free.Goals as goal

pub find-requires-clause-callable : goal.find-requires-clause-callable
find-requires-clause-callable c =
    serves_from_Range (λ x q k. search (rules, tests)) (λ x low high. let w = global-inside c.args.lists.now.layout.sizes x _ _ c.args.lists.now.fit high c.blocks_at-at.ensures in grind (arith, tests))

pub returns : goal.returns
returns c =
    let l = c.args.lists.now.bytes.now in
    let at = c.blocks_at-at.result in
    rw (← c.blocks_at-at.ensures) (first-found l at _ _ _
    (first_from_Range _ _ _ _ (λ g. word_at l (at + g) ≡ 0) (λ g. word_at l (at + g) ≢ 0) c.find.ensures.ran (λ x q k. grind (arith, tests)) (λ x q k. (search rules, grind (arith, tests)))))
