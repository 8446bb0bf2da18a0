-- With what is left stored at `at`, all is stored. Assumes nothing.
use Rattle.std.proofs.Common.{◌≡◌, ◌+◌, ◌≤◌, length, drop}
use Rattle.std.proofs.lemmas.List.Edits.{sets}
use Rattle.encoding.specs.Encoding.{encoded}
use Rattle.parts.proofs.write_encoded.Given as goal

abbrev pub invariant-loop-b : goal.invariant-loop-b
invariant-loop-b l = record {
  stored : sets l.dst l.at (encoded l.form (drop l.b-index l.tag)) ≡ sets l.fn.dst 0 (encoded l.form l.tag);
  room : l.at + length (encoded l.form (drop l.b-index l.tag)) ≤ length l.dst;
}
