-- `ranked_pair_dictionary::read_frequent_id`: what was read so far and the bytes still to read make the value.
use Rattle.std.proofs.Common.{◌≡◌, ◌*◌, ◌^◌, ◌%◌, ◌<◌, take, drop}
use Rattle.ranked_pair_dictionary.specs.FrequentId.{of_be}
use Rattle.ranked_pair_dictionary.proofs.read_frequent_id.Given as goal

abbrev pub invariant-loop-byte : goal.invariant-loop-byte
invariant-loop-byte l = record {
  low : l.value < 64 * 256 ^ l.byte-index;
  same : of_be l.value (drop l.byte-index (take l.further (drop 1 l.bytes))) ≡ of_be (l.first % 64) (take l.further (drop 1 l.bytes));
}
