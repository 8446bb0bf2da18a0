-- The key is the lead of the head's number, then the rest. Assumes nothing.
use Rattle.std.proofs.Common.{◌≡◌, sym, ap, ◌∙◌, length-append, arith, rules}
use Rattle.fnv.specs.Fnv.{fnv_of}
use Rattle.layout.proofs.Ranges.{page-size, limit-fits}
use Rattle.search.proofs.Keys.{hash-on}
use Rattle.search.proofs.find_behind.Goals as goal

pub behind-key-requires-clause-hashed : goal.behind-key-requires-clause-hashed
behind-key-requires-clause-hashed c =
    let a = c.args in
    let front = c.as_slice-2.result.now in
    let e : c.as_slice.result.now ≡ front = c.as_slice.ensures ∙ sym c.as_slice-2.ensures in
    rw c.raw.ensures.stored (hash-on front a.rest.now _ _ (c.fnv.ensures ∙ ap fnv_of e) c.scan-x.ensures.0)

pub behind-key-requires-clause-fits : goal.behind-key-requires-clause-fits
behind-key-requires-clause-fits c =
    let a = c.args in
    let l = a.memory.now.lists.layout in
    rw c.raw.ensures.stored (omega (arith, length-append c.as_slice-2.result.now a.rest.now, page-size l.sizes l.in_range, limit-fits l.sizes l.in_range))

pub returns-clause-placed : goal.returns-clause-placed
returns-clause-placed c =
    let l = c.lead_of-lead.ensures in
    (l, hash-on _ c.args.rest.now _ _ (c.fnv.ensures ∙ ap fnv_of (c.as_slice.ensures ∙ l)) c.scan-x.ensures.0)

pub returns-clause-ascii : goal.returns-clause-ascii
returns-clause-ascii c = search rules
