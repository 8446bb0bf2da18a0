-- `utf8_char::char_end`: each byte of `tail` that was taken is one less due, and what is due and the bytes from there on are text where those from i on are.
use Rattle.std.proofs.Common.{◌≡◌, ◌+◌, drop, Some}
use Rattle.utf8_char.specs.Text.{char_start, text_from}
use Rattle.utf8_char.proofs.char_end.Given as goal

abbrev pub invariant-loop-b : goal.invariant-loop-b
invariant-loop-b l = record {
  left : l.due.left + l.b-index ≡ l.initial.due.left;
  same : text_from (Some l.due) (drop (l.i + 1 + l.b-index) l.s) ≡ text_from char_start (drop l.i l.s);
}
