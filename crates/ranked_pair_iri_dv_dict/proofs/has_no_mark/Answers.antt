-- `ranked_pair_iri_dv_dict::has_no_mark` meets its contract: if all tops are set, none of the eight bytes is a mark.
use borrow.Author.Tests.{eqb-true}
use Rattle.ranked_pair_iri_dv_dict.proofs.Words.{tops, each, no-marks}
use Rattle.ranked_pair_iri_dv_dict.proofs.has_no_mark.Goals as goal

pub returns : goal.returns
returns c e = no-marks 8 c.args.word.now 0 c.fits-word (rw c.number_from.ensures at (eqb-true (tops 8 c.number_from.result) (each 8 0x80) e))
