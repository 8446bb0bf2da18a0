-- Each answer, from what was read.
use Rattle.std.proofs.Common.{sym, ap, ◌∙◌, arith}
use Rattle.std.specs.Prelude.{Err}
use Rattle.std.proofs.lemmas.Result.{err_from_is_err_and}
use Rattle.layout.proofs.Numbers.{dictionary-below}
use Rattle.bytes_dictionary.proofs.Reading.{counted-by, uncounted}
use Rattle.bytes_dictionary.proofs.Looked.{looked-up-uncounted, looked-up-nothing, looked-up-at, looked-up-foreign}
use Rattle.bytes_dictionary.proofs.look_up.Goals as goal

pub returns-in_err-n : goal.returns-in_err-n
returns-in_err-n c =
    let f = err_from_is_err_and c.from_residual.result c.from_residual.ensures.1 in
    let u = uncounted _ _ _ (sym c.in_err-n.ensures) in
    looked-up-uncounted _ _ _ _ (dictionary-below c.args.d) _ (f.1 ∙ ap Err (f.2 ∙ u.0)) u.1

pub returns-then-n-i : goal.returns-then-n-i
returns-then-n-i c =
    let k = counted-by _ _ _ (sym c.in_ok-n.ensures) in
    looked-up-nothing _ _ _ _ (dictionary-below c.args.d) (omega (arith, k, c.if-n-i.true))

pub entry_span-requires : goal.entry_span-requires
entry_span-requires c =
    let k = counted-by _ _ _ (sym c.in_ok-n.ensures) in
    omega (arith, k, c.if-n-i.false)

pub returns-in_err-span : goal.returns-in_err-span
returns-in_err-span c =
    let k = counted-by _ _ _ (sym c.in_ok-n.ensures) in
    let f = err_from_is_err_and c.from_residual-in_err-span.result c.from_residual-in_err-span.ensures.1 in
    looked-up-foreign _ _ _ _ (dictionary-below c.args.d) (omega (arith, k, c.if-n-i.false)) _ _ (f.1 ∙ ap Err f.2) c.in_err-span.ensures

pub returns : goal.returns
returns c =
    let k = counted-by _ _ _ (sym c.in_ok-n.ensures) in
    looked-up-at _ _ _ _ (dictionary-below c.args.d) (omega (arith, k, c.if-n-i.false)) _ c.in_ok-span.ensures
