-- The key is written inside its page, and the page's rest comes back with the key at its start.
use Rattle.std.proofs.Common.{◌+◌, ◌-◌, ◌*◌, arith}
use Rattle.slices.proofs.Sets.{sets-mid}
use Rattle.layout.specs.Sizes.{page_size}
use Rattle.layout.proofs.Ranges.{page-size, in-pages}
use Rattle.bytes_key.specs.KeyBytes.{stored}
use Rattle.bytes_entry.proofs.place_entry.Goals as goal

pub write_entry-requires-clause-page_bound : goal.write_entry-requires-clause-page_bound
write_entry-requires-clause-page_bound c =
    let r = c.requires in
    let g = c.args.layout.now.in_range in
    let q = page-size c.args.layout.now.sizes g in
    (omega (arith, r.page_lt_n.0, g.n), omega (arith, r.page_lt_n.1, q), omega (arith, r.page_lt_n.1, q))

pub slice_bounds-write_tail-end : goal.slice_bounds-write_tail-end
slice_bounds-write_tail-end c =
    let r = c.requires in
    let s = c.args.layout.now.sizes in
    rw c.page_size-size.ensures (omega (arith, in-pages s c.args.lies.page (page_size s) r.page_lt_n.0 (omega arith), r.fit.0.pages-fit))

pub returns-clause-pages : goal.returns-clause-pages
returns-clause-pages c =
    let r = c.requires in
    let a = c.args in
    let s = a.layout.now.sizes in
    let start = a.lies.page * page_size s in
    let at = start + a.lies.offset in
    let b = in-pages s a.lies.page (page_size s) r.page_lt_n.0 (omega arith) in
    rw (c.write_tail.ensures, c.page_size-size.ensures)
    (sets-mid (stored a.parts.now) a.pages.now at (start + page_size s - at) (omega (arith, b, r.fit.0.pages-fit, r.page_lt_n)) (omega (arith, r.page_lt_n)))
