-- The text decides first, then the search. Assumes nothing.
use Rattle.std.proofs.Common.{◌≡◌, inl, inr, sym}
use Rattle.std.specs.Prelude.{Result, Ok, Err}
use Rattle.std.proofs.Math.Option.{none}
use Rattle.std.proofs.lemmas.Result.{err_from_is_err_and}
use Rattle.slices.specs.Bytes.{Bytes}
use Rattle.refusals.specs.declared.Refusal.{Refusal}
use Rattle.refusals.proofs.Told.{told-legal, told-illegal}
use Rattle.layout.specs.declared.Sizes.{Sizes}
use Rattle.model.specs.Names.{Name}
use Rattle.model.specs.Steps.{text_refusal}
use Rattle.search.specs.declared.Search.{Search}
use Rattle.search.specs.Found.{SearchEnded, NameSought}
use Rattle.search.proofs.find_name.Goals as goal

-- What was found of a name whose text is legal.
sought : (s : Sizes) (pages lists : Bytes) (a : Name) (r : Result Search Refusal) → text_refusal a ≡ none → SearchEnded s pages lists a r → NameSought s pages lists a r
sought s pages lists a (Ok x) h e = (h, e)
sought s pages lists a (Err why) h e = inr (h, e)

pub returns-in_err-check_text : goal.returns-in_err-check_text
returns-in_err-check_text c =
    let p = err_from_is_err_and c.from_residual.result c.from_residual.ensures.1 in
    rw (p.1, p.2) (inl (told-illegal _ _ (sym c.in_err-check_text.ensures)))

pub returns : goal.returns
returns c = sought _ _ _ _ _ (told-legal _ (sym c.in_ok-check_text.ensures)) c.seek-x.ensures.ended
