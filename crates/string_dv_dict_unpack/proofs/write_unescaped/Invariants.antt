-- The bytes that are left, unescaped and stored at `at`, make what all of them make. Assumes nothing.
use Rattle.std.proofs.Common.{◌≡◌, ◌+◌, ◌≤◌, ◌++◌, false, length, drop}
use Rattle.std.proofs.lemmas.List.Edits.{sets}
use Rattle.string_dv_dict_split.specs.Forms.{unescaped}
use Rattle.string_dv_dict_unpack.proofs.write_unescaped.Given as goal

abbrev pub invariant-loop-c : goal.invariant-loop-c
invariant-loop-c l = record {
  makes : sets l.dst l.at (unescaped l.behind (drop l.c-index l.s)) ≡ unescaped false l.s ++ drop (length (unescaped false l.s)) l.fn.dst;
  room : l.at + length (unescaped l.behind (drop l.c-index l.s)) ≤ length l.dst;
}
