-- The bytes stored are the run of stores that specs/ has.
use Rattle.std.proofs.Common.{arith, ◌∙◌, ◌≡◌, ◌+◌, ◌*◌, ap, ◌++◌, take, drop, length, ℕ}
use Rattle.std.proofs.lemmas.Grind.{common_steps}
use Rattle.std.proofs.lemmas.List.Edits.{sets, sets-eq}
use Rattle.words.specs.Words.{le, set_number}
use Rattle.words.proofs.Laws.{written-eight, take-le, length-le}
use Rattle.words.proofs.put_number.Goals as goal

pub returns : goal.returns
unfolding set_number
returns g c =
    let n = g.row.N in
    let s = c.args.s.now in
    let x = c.args.x in
    let b : ℕ = n * c.args.i in
    let stored : c.copy_from_slice.new.self ≡ le n x =
    c.copy_from_slice.ensures.after ∙ ap (take n) (c.to_le_bytes-bytes.ensures ∙ written-eight x) ∙ take-le n 8 x c.requires.width in
    let l = length-le n x in
    let e : sets s b (le n x) ≡ take b s ++ le n x ++ drop (b + length (le n x)) s = sets-eq (le n x) s b (omega arith) in
    rw (stored, e, l) (grind (arith, common_steps))
