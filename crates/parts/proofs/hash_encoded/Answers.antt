-- The fold over the bytes, and then the end. Assumes nothing.
use Rattle.std.proofs.Common.{sym, rules}
use Rattle.std.proofs.lemmas.Iterator.{YieldsList-from_slice}
use Rattle.std.proofs.lemmas.Iterator.Consumers.{fold_from_yields_List}
use Rattle.fnv.specs.Fnv.{fnv_from}
use Rattle.encoding.specs.Encoding.{encoded_byte}
use Rattle.parts.proofs.Laws.{fnv-fold}
use Rattle.parts.proofs.hash_encoded.Goals as goal

pub returns : goal.returns
returns c =
    let e = fold_from_yields_List _ (λ a b. fnv_from a (encoded_byte c.args.form b)) c.args.start c.fold-h.result c.fold-h.ensures.ran
    (YieldsList-from_slice c.args.tag.now cc) (λ a x b q k. search rules) in
    rw (c.hash_on.ensures, c.end.ensures, e) (sym (fnv-fold c.args.form c.args.tag.now c.args.start))
