-- The next byte is compared, and the rest is left; at the end, what stands behind the last. Assumes nothing.
use Rattle.std.proofs.Common.{◌≡◌, ℕ, ◌+◌, ◌&&◌, ◌++◌, length, take, drop, sym, ap, ◌∙◌, arith, length-drop}
use lib.Seq.{take_all, drop-drop}
use Rattle.slices.specs.Bytes.{Bytes, same_bytes}
use Rattle.encoding.specs.Encoding.{encoded, stored_bytes}
use Rattle.encoding.proofs.Laws.{encoded-more, encoded-end}
use Rattle.parts.proofs.Laws.{same-append, same_length, length-more, length-end}
use Rattle.parts.proofs.same_encoded.Goals as goal

-- What is left begins with x: x is compared at `at`, and then the rest behind it.
more : (x y : Bytes) {z : Bytes} (at : ℕ) (t : Bytes) → z ≡ x ++ y
    → same_bytes z (drop at t) ≡ (same_bytes x (take (length x) (drop at t)) && same_bytes y (drop (at + length x) t))
more x y at t e = rw (e, ← drop-drop (length x) at t) (same-append x y (drop at t))

pub returns-then-stored-measure_encoded : goal.returns-then-stored-measure_encoded
returns-then-stored-measure_encoded c =
    sym (same_length (encoded c.args.form c.args.tag.now) c.args.stored.now (omega arith))

pub stands_at-requires : goal.stands_at-requires
stands_at-requires c =
    let e = length-more c.args.form c.loop-b.b-index c.args.tag.now (stored_bytes c.encode-piece.result) (omega arith) c.encode-piece.ensures in
    omega arith

pub returns-then-not-stands_at : goal.returns-then-not-stands_at
returns-then-not-stands_at c =
    let x = stored_bytes c.encode-piece.result in
    let e = encoded-more c.args.form c.loop-b.b-index c.args.tag.now x (omega arith) c.encode-piece.ensures in
    let m = more x _ c.loop-b.at c.args.stored.now e in
    rw (← c.if-not-stands_at.ensures) at (sym m ∙ c.loop-b.invariant.same)

pub loop-b-preserved : goal.loop-b-preserved
loop-b-preserved c =
    let x = stored_bytes c.encode-piece.result in
    let e = encoded-more c.args.form c.loop-b.b-index c.args.tag.now x (omega arith) c.encode-piece.ensures in
    let n = length-more c.args.form c.loop-b.b-index c.args.tag.now x (omega arith) c.encode-piece.ensures in
    let m = more x _ c.loop-b.at c.args.stored.now e in
    record {
      left = omega arith;
      same = rw c.width-at.ensures (rw (← c.if-not-stands_at.ensures) at (sym m ∙ c.loop-b.invariant.same));
    }

pub stands_at-requires-2 : goal.stands_at-requires-2
stands_at-requires-2 c =
    let e = length-end c.args.form c.loop-b.b-index c.args.tag.now (stored_bytes c.end.result) (omega arith) c.end.ensures in
    omega arith

pub returns : goal.returns
returns c =
    let x = stored_bytes c.end.result in
    let t = drop c.loop-b.at c.args.stored.now in
    let e = encoded-end c.args.form c.loop-b.b-index c.args.tag.now x (omega arith) c.end.ensures in
    let w : take (length x) t ≡ t = take_all (length x) t (simp length-drop (omega (arith, ap length e))) in
    c.stands_at-2.ensures ∙ ap (same_bytes x) w ∙ ap (λ (y : Bytes). same_bytes y t) (sym e) ∙ c.loop-b.invariant.same
