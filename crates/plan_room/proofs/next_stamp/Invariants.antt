-- The sum so far is that of the count words of the kinds below the index, each at most e. Assumes nothing.
use Rattle.std.proofs.Common.{◌*◌, ◌≡◌, ◌≤◌}
use Rattle.bytes_buffer.specs.Pages.{sum}
use Rattle.plan_room.specs.Steps.{count_word}
use Rattle.plan_room.proofs.next_stamp.Given as goal

abbrev pub invariant-loop-kind : goal.invariant-loop-kind
invariant-loop-kind l = (l.stamp ≤ l.kind-index * l.lists.layout.sizes.e) × (l.stamp ≡ sum (count_word l.lists.bytes.now) l.kind-index)
