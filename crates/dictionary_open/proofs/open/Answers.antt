-- Each test refuses where document 01 does, and what initialisation leaves is a dictionary with no names. Assumes nothing.
use Rattle.std.proofs.Common.{◌≡◌, sym, ap, ◌∙◌}
use Rattle.std.proofs.lemmas.Result.{err_from_is_err_and}
use Rattle.refusals.specs.declared.Refusal.TheVariants.{BadSize}
use Rattle.layout.specs.Laid.{laid}
use Rattle.dictionary_open.proofs.Opens.{open-bad, open-short, open_done}
use Rattle.dictionary_open.proofs.open.Goals as goal

pub returns-in_err-layout : goal.returns-in_err-layout
returns-in_err-layout c =
    let p = err_from_is_err_and c.from_residual.result c.from_residual.ensures.1 in
    let e = rw c.in_err-layout.ensures.ok_part at c.in_err-layout.ensures.value in
    let b : p.0 ≡ BadSize = cc in
    rw (p.1, b) (open-bad _ c.args.pages.now c.args.lists.now (sym c.new.ensures ∙ ap laid c.in_err-layout.ensures.ok_part))

pub returns-then-is_none : goal.returns-then-is_none
returns-then-is_none c =
    let m = sym c.new.ensures ∙ ap laid c.in_ok-layout.ensures.ok_part in
    open-short _ _ m _ _ (sym c.new-2.ensures.fit ∙ c.if-is_none.ensures)

pub returns : goal.returns
returns c =
    let m = sym c.new.ensures ∙ ap laid c.in_ok-layout.ensures.ok_part in
    open_done _ _ m _ _ (sym c.new-2.ensures.fit ∙ c.if-is_none.ensures) _ c.init.ensures
