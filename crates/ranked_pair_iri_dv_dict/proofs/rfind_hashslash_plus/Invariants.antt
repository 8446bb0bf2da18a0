-- `ranked_pair_iri_dv_dict::rfind_hashslash_plus`: the bytes left have the same head as all. The measure is their number.
use Rattle.std.proofs.Common.{◌≡◌, length}
use Rattle.ranked_pair_iri_dv_dict.specs.Split.{head_length}
use Rattle.ranked_pair_iri_dv_dict.proofs.rfind_hashslash_plus.Given as goal

abbrev pub invariant-loop-rest : goal.invariant-loop-rest
invariant-loop-rest l = head_length l.rest ≡ head_length l.iri

abbrev pub decreases-loop-rest : goal.decreases-loop-rest
decreases-loop-rest l = length l.rest
