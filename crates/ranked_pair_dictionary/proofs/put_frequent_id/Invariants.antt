-- `ranked_pair_dictionary::put_frequent_id`: `done` of the last bytes stand in the buffer, and `high` is what is left of the value.
use Rattle.std.proofs.Common.{◌≡◌, ◌+◌, ◌-◌, ◌/◌, ◌^◌}
use lib.Seq.{sets}
use Rattle.ranked_pair_dictionary.specs.FrequentId.{be}
use Rattle.ranked_pair_dictionary.proofs.put_frequent_id.Given as goal

abbrev pub invariant-loop-done : goal.invariant-loop-done
invariant-loop-done l = record {
  left : l.high ≡ l.value / 256 ^ l.done;
  stands : l.buffer ≡ sets l.initial.buffer (l.further - l.done + 1) (be l.done l.value);
}
