-- `utf8::pass_words` meets its contract: eight ASCII bytes more are passed; of the last eight some may be passed already.
use Rattle.std.proofs.Common.{ℕ, ◌≡◌, true, ◌+◌, ◌-◌, length, drop, take, ap, sym, ◌∙◌, arith, rules}
use lib.ListN.{length-take, length-drop}
use lib.Seq.{take_all}
use Rattle.utf8.specs.Passing.{ascii}
use Rattle.utf8.proofs.Ascii.{pass_on, pass-run}
use Rattle.utf8.proofs.Runs.{pass-chunk, ascii-characters}
use Rattle.utf8.proofs.pass_words.Goals as goal

pub loop-bytes-preserved : goal.loop-bytes-preserved
loop-bytes-preserved c =
    let bytes = c.in-Some.bytes.now in
    pass-chunk 8 c.args.s.now bytes c.args.i _ c.loop-bytes.invariant c.in-Some.ensures.cases
    (ascii-characters bytes (sym c.if-not-is_ascii.ensures))

pub returns-in-Some-last_chunk : goal.returns-in-Some-last_chunk
returns-in-Some-last_chunk c =
    let s = c.args.s.now in
    let q = c.in-Some-last_chunk.ensures.cases in
    let p : length s - 8 + 8 ≡ length s = omega (arith, q.0) in
    let t : take 8 (drop (length s - 8) s) ≡ drop (length s - 8) s = take_all 8 _ (omega (arith, length-drop (length s - 8) s)) in
    let a : ascii (take 8 (drop (length s - 8) s)) ≡ true = rw t (ap ascii (sym q.1.same) ∙ sym c.if-is_ascii.ensures) in
    let k = c.loop-bytes.k in
    let rest : length (take (length s - k) (drop k s)) ≡ length s - k = omega (arith, length-take {A = ℕ}, length-drop k s) in
    pass_on _ _ _ _ c.loop-bytes.invariant
    (rw p at (pass-run 8 s (length s - 8) k (omega (arith, q.0)) a (omega (arith, rest, c.in_default.ensures.cases)) (omega (arith, c.loop-bytes.invariant.1))))

pub returns-in_default-last_chunk : goal.returns-in_default-last_chunk
returns-in_default-last_chunk c = search rules

pub returns-in_default-last_chunk-2 : goal.returns-in_default-last_chunk-2
returns-in_default-last_chunk-2 c = search rules
