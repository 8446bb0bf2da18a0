-- The hash and the bits so far, taken on over the bytes that are left, are those of all.
use Rattle.std.proofs.Common.{◌≡◌, drop}
use Rattle.fnv.specs.Fnv.{fnv_from, bits_from}
use Rattle.fnv.proofs.scan.Given as goal

abbrev pub invariant-loop-b : goal.invariant-loop-b
invariant-loop-b l = record {
  hash : fnv_from l.h (drop l.b-index l.s) ≡ fnv_from l.start l.s;
  bits : bits_from l.seen (drop l.b-index l.s) ≡ bits_from l.bits l.s;
}
