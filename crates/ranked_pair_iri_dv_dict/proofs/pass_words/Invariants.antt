-- `ranked_pair_iri_dv_dict::pass_words`: the bytes left have the same head as all. The measure is their number.
use Rattle.std.proofs.Common.{◌≡◌, length}
use Rattle.ranked_pair_iri_dv_dict.specs.Split.{head_length}
use Rattle.ranked_pair_iri_dv_dict.proofs.pass_words.Given as goal

abbrev pub invariant-loop-before : goal.invariant-loop-before
invariant-loop-before l = head_length l.rest ≡ head_length l.iri

abbrev pub decreases-loop-before : goal.decreases-loop-before
decreases-loop-before l = length l.rest
