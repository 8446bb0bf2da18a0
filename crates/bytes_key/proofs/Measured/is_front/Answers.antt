-- The length of the whole first, then the front. Assumes nothing.
use Rattle.std.proofs.Common.{sym, ◌∙◌, arith}
use Rattle.parts.specs.Parts.{part_bytes}
use Rattle.bytes_key.proofs.Compared.{raw}
use Rattle.bytes_key.proofs.Fronts.{front-short, front-none, front_same}
use Rattle.bytes_key.proofs.Measured.is_front.Goals as goal

pub returns-then-stored-n : goal.returns-then-stored-n
returns-then-stored-n c =
    let x = c.args.self.now in
    sym (front-short c.args.stored.now (part_bytes x.part) c.args.behind (omega (arith, x.measured)))

pub returns-then-stored-n-2 : goal.returns-then-stored-n-2
returns-then-stored-n-2 c =
    let x = c.args.self.now in
    sym (front-short c.args.stored.now (part_bytes x.part) c.args.behind (omega (arith, x.measured)))

pub returns-then-n-eq0 : goal.returns-then-n-eq0
returns-then-n-eq0 c =
    let x = c.args.self.now in
    sym (front-none c.args.stored.now (part_bytes x.part) c.args.behind (omega (arith, x.measured)) (omega arith))

pub returns-in-Raw : goal.returns-in-Raw
returns-in-Raw c =
    let x = c.args.self.now in
    (rw (c.raw.ensures.stored, ← raw _ x.part.bytes.now c.in-Raw.is) at c.is_stored_as.ensures)
    ∙ front_same c.args.stored.now (part_bytes x.part) c.args.behind x.len x.measured (omega arith)

pub returns : goal.returns
returns c =
    let x = c.args.self.now in
    c.is_stored_as-2.ensures
    ∙ front_same c.args.stored.now (part_bytes x.part) c.args.behind x.len x.measured (omega arith)
