-- What is left, and what is left at `at`, are equally long, and compare as all of both. Assumes nothing.
use Rattle.std.proofs.Common.{◌≡◌, ◌+◌, length, drop}
use Rattle.slices.specs.Bytes.{same_bytes}
use Rattle.encoding.specs.Encoding.{encoded}
use Rattle.parts.proofs.same_encoded.Given as goal

abbrev pub invariant-loop-b : goal.invariant-loop-b
invariant-loop-b l = record {
  left : l.at + length (encoded l.form (drop l.b-index l.tag)) ≡ length l.stored;
  same : same_bytes (encoded l.form (drop l.b-index l.tag)) (drop l.at l.stored) ≡ same_bytes (encoded l.form l.tag) l.stored;
}
