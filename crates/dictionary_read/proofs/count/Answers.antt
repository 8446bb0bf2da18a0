-- The count of the kind's main dictionary is the answer, once the header and the kind are checked. Assumes nothing.
use Rattle.std.proofs.Common.{◌≡◌, sym, ap, ◌∙◌, ℕ}
use Rattle.std.proofs.lemmas.Result.{err_from_is_err_and}
use Rattle.words.specs.Words.{word_at}
use Rattle.slices.specs.Bytes.{Bytes}
use Rattle.layout.specs.Fields.{count_at}
use Rattle.layout.specs.Numbers.{kind_number, dictionary_number}
use Rattle.layout.proofs.Numbers.{kind-below}
use Rattle.bytes_dictionary.specs.Reading.{count_in}
use Rattle.model.specs.Kinds.{row}
use Rattle.dictionary_read.proofs.Counts.{kind-unknown, kind-known, count-unopened, count-bad-kind, counted-names}
use Rattle.dictionary_read.proofs.count.Goals as goal

pub returns-in_err-memory : goal.returns-in_err-memory
returns-in_err-memory c =
    let p = err_from_is_err_and c.from_residual.result c.from_residual.ensures.1 in
    rw (p.1, p.2) (count-unopened _ _ c.args.kind _ (sym c.in_err-memory.ensures.sized))

pub returns-in_default : goal.returns-in_default
returns-in_default c =
    count-bad-kind _ _ c.in_ok-memory.memory.lists.layout.sizes (sym c.in_ok-memory.ensures.sized) c.args.kind
    (kind-unknown c.args.kind _ (sym c.in_default.ensures))

pub returns : goal.returns
returns c =
    let s = c.in_ok-memory.memory.lists.layout.sizes in
    let n = dictionary_number c.of.result.main in
    let q : c.args.kind ≡ kind_number c.in-Ok.kind = kind-known c.args.kind _ (sym c.in-Ok.ensures) in
    counted-names _ _ s (sym c.in_ok-memory.ensures.sized) c.args.kind (rw q (kind-below c.in-Ok.kind)) _
    (ap (λ (d : ℕ). count_in s (word_at c.args.lists.now (count_at d))) (ap (λ (k : ℕ). (row k).main_at) q ∙ sym c.of.ensures.main_at)
    ∙ ap (λ (l : Bytes). count_in s (word_at l (count_at n))) (sym c.in_ok-memory.ensures.given.0)
    ∙ sym c.count.ensures)
