-- The stores of the entry, then those of its page by the spot.
use Rattle.std.proofs.Common.{◌∙◌, arith}
use Rattle.layout.specs.Sizes.{list_bytes}
use Rattle.layout.specs.Numbers.{dictionary_number}
use Rattle.layout.proofs.Ranges.{page-size}
use Rattle.bytes_dictionary.proofs.Written.{pages-put, lists-current, lists-next}
use Rattle.bytes_dictionary.proofs.insert.Goals as goal

pub overflow_add-offset : goal.overflow_add-offset
overflow_add-offset c =
    let h = rw c.in-Current.is at c.requires.has_room in
    omega (arith, h.1, c.len-len.ensures, page-size c.args.layout.now.sizes c.args.layout.now.in_range)

pub extend-requires : goal.extend-requires
unfolding list_bytes
extend-requires c =
    let h = rw c.in-Current.is at c.requires.has_room in
    (omega (arith, h.0, c.requires.fit.0.lists-fit), omega (arith, h.1, c.len-len.ensures, page-size c.args.layout.now.sizes c.args.layout.now.in_range))

pub take_page-requires : goal.take_page-requires
unfolding list_bytes
take_page-requires c =
    let h = rw c.in-Next.is at c.requires.has_room in
    (omega (arith, h.0, c.requires.fit.0.lists-fit), omega (arith, h.1, c.len-len.ensures, page-size c.args.layout.now.sizes c.args.layout.now.in_range))

pub returns-in-Current-clause-pages : goal.returns-in-Current-clause-pages
returns-in-Current-clause-pages c =
    let l = c.extent_at-lies.ensures in
    c.place_entry.ensures.pages ∙ pages-put _ _ c.args.spot _ c.extent_at-lies.result l.0 l.1

pub returns-in-Current-clause-lists : goal.returns-in-Current-clause-lists
returns-in-Current-clause-lists c =
    let a = c.args in
    let l = c.extent_at-lies.ensures in
    lists-current a.layout.now.sizes a.lists.now (dictionary_number a.key.now.d) a.x.n a.x.place a.spot a.x.stamp _ _ l.0 l.1 (l.2 ∙ c.len-len.ensures) _ _ _ _ _ _
    c.in-Current.is c.len-len.ensures c.args.key.now.hashed c.place_entry.ensures.lists c.extend.ensures

pub returns-in-Next-clause-pages : goal.returns-in-Next-clause-pages
returns-in-Next-clause-pages c =
    let l = c.extent_at-lies.ensures in
    c.place_entry.ensures.pages ∙ pages-put _ _ c.args.spot _ c.extent_at-lies.result l.0 l.1

pub returns-in-Next-clause-lists : goal.returns-in-Next-clause-lists
returns-in-Next-clause-lists c =
    let a = c.args in
    let l = c.extent_at-lies.ensures in
    lists-next a.layout.now.sizes a.lists.now (dictionary_number a.key.now.d) a.x.n a.x.place a.spot a.x.stamp _ _ l.0 l.1 (l.2 ∙ c.len-len.ensures) _ _ _ _ _
    c.in-Next.is c.len-len.ensures c.args.key.now.hashed c.place_entry.ensures.lists c.take_page.ensures
