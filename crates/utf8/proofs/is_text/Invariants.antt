-- `utf8::is_text`: the bytes from i on are text where all of them are. The measure is the number of bytes left.
use Rattle.std.proofs.Common.{◌≡◌, ◌-◌, ◌≤◌, length, drop}
use Rattle.utf8_char.specs.Text.{char_start, text_from, is_text}
use Rattle.utf8.proofs.is_text.Given as goal

abbrev pub invariant-loop-i : goal.invariant-loop-i
invariant-loop-i l = record {
  within : l.i ≤ length l.s;
  same : text_from char_start (drop l.i l.s) ≡ is_text l.s;
}

abbrev pub decreases-loop-i : goal.decreases-loop-i
decreases-loop-i l = length l.s - l.i
