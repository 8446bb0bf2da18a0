-- A raw part is its own stored bytes. Any other part is compared at once. Assumes nothing.
use Rattle.std.proofs.Common.{length, sym, ap, arith}
use Rattle.parts.specs.Parts.{part_bytes}
use Rattle.bytes_key.proofs.Compared.{raw, at-once-not, at_once}
use Rattle.bytes_key.proofs.Measured.agreeing.Goals as goal

pub agreeing-requires : goal.agreeing-requires
agreeing-requires c =
    let x = c.args.self.now in
    let e = ap length (raw _ x.part.bytes.now c.in-Raw.is) in
    (omega arith, omega (arith, x.measured), omega (arith, x.measured))

pub returns-in-Raw-clause-agreeing : goal.returns-in-Raw-clause-agreeing
returns-in-Raw-clause-agreeing c = rw (raw _ c.args.self.now.part.bytes.now c.in-Raw.is) c.agreeing.ensures.agreeing

pub returns-then-not-is_stored_as-clause-agreeing : goal.returns-then-not-is_stored_as-clause-agreeing
returns-then-not-is_stored_as-clause-agreeing c =
    let x = c.args.self.now in
    at-once-not c.args.stored.now (part_bytes x.part) (omega (arith, x.measured)) c.args.left (rw x.measured at (sym c.if-not-is_stored_as.ensures))

pub returns-clause-agreeing : goal.returns-clause-agreeing
returns-clause-agreeing c =
    let x = c.args.self.now in
    at_once c.args.stored.now (part_bytes x.part) (omega (arith, x.measured)) c.args.left (omega arith) (omega (arith, x.measured)) (rw x.measured at (sym c.if-not-is_stored_as.ensures))
