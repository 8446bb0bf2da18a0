-- The next byte is stored, and the rest is left; at the end, what stands behind the last. Assumes nothing.
use Rattle.std.proofs.Common.{◌≡◌, ℕ, ◌+◌, ◌++◌, length, sym, ap, ◌∙◌, arith}
use Rattle.std.proofs.lemmas.List.Edits.{sets}
use Rattle.slices.specs.Bytes.{Bytes}
use Rattle.encoding.specs.Encoding.{stored_bytes}
use Rattle.encoding.proofs.Laws.{encoded-more, encoded-end}
use Rattle.parts.proofs.Laws.{sets-append, length-more, length-end}
use Rattle.parts.proofs.write_encoded.Goals as goal

-- What is left begins with x. After x is stored, the rest is left.
more : (x y : Bytes) {z : Bytes} (d : Bytes) (at : ℕ) {d' : Bytes} {at' : ℕ} → z ≡ x ++ y → d' ≡ sets d at x → at' ≡ at + length x → sets d' at' y ≡ sets d at z
more x y d at e p q = rw (e, p, q) (sym (sets-append x y d at))

pub put-at-requires : goal.put-at-requires
put-at-requires c =
    let e = length-more c.args.form c.loop-b.b-index c.args.tag.now (stored_bytes c.encode.result) (omega arith) c.encode.ensures in
    omega arith

pub loop-b-preserved : goal.loop-b-preserved
loop-b-preserved c =
    let x = stored_bytes c.encode.result in
    let p = c.put-at in
    let e = encoded-more c.args.form c.loop-b.b-index c.args.tag.now x (omega arith) c.encode.ensures in
    let n = length-more c.args.form c.loop-b.b-index c.args.tag.now x (omega arith) c.encode.ensures in
    record {
      stored = more x _ c.loop-b.dst c.loop-b.at e p.ensures.1 p.ensures.0 ∙ c.loop-b.invariant.stored;
      room = omega (arith, p.auto.dst);
    }

pub put-requires : goal.put-requires
put-requires c =
    let e = length-end c.args.form c.loop-b.b-index c.args.tag.now (stored_bytes c.end.result) (omega arith) c.end.ensures in
    omega arith

pub returns : goal.returns
returns c =
    let e = encoded-end c.args.form c.loop-b.b-index c.args.tag.now (stored_bytes c.end.result) (omega arith) c.end.ensures in
    c.put.ensures.1 ∙ ap (sets c.loop-b.dst c.loop-b.at) (sym e) ∙ c.loop-b.invariant.stored
