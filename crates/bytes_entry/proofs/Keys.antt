-- A key is stored part after part. Each part is lent the tail behind the part before. Assumes nothing.
use Prim.Native.Nat.{ℕ, ◌+◌, ◌-◌, ◌≤◌}
use mathlib.Core.Path.{◌≡◌, sym, ap, ◌∙◌}
use mathlib.Core.List.{◌++◌}
use native.Mathlib.Omega.{arith}
use lib.ListN.{length, take, drop, length-append, length-take, length-drop}
use lib.Seq.{sets}
use Rattle.slices.specs.Bytes.{Bytes}
use Rattle.slices.proofs.Sets.{sets-mid}
use Rattle.parts.proofs.Laws.{sets-append, sets-front}

-- The tail of l comes back with the part at its front.
pub put-part : (vs l : Bytes) (at : ℕ) → at + length vs ≤ length l
    → take at l ++ ((vs ++ drop (length vs) (take (length l - at) (drop at l))) ++ drop (length l - at) (drop at l)) ≡ sets l at vs
put-part vs l at h =
    let k : ℕ = length l - at in
    let f : length vs ≤ length (take k (drop at l)) = simp (length-take, length-drop) (omega arith) in
    ap (λ (x : Bytes). take at l ++ (x ++ drop k (drop at l))) (sym (sets-front vs (take k (drop at l)) f)) ∙ sets-mid vs l at k (omega arith) (omega arith)

-- The front f, and the rest r behind it, at the start of the tail l.
pub put-tail : (l l₁ f r : Bytes) (m : ℕ)
    → l₁ ≡ f ++ drop (length f) l → m ≡ length f → length (f ++ r) ≤ length l
    → take m l₁ ++ ((r ++ drop (length r) (take (length l₁ - m) (drop m l₁))) ++ drop (length l₁ - m) (drop m l₁)) ≡ sets l 0 (f ++ r)
put-tail l l₁ f r m p e h =
    let n = length-append f r in
    let k : length l₁ ≡ length l = ap length p ∙ length-append f _ ∙ simp length-drop (omega arith) in
    let q : l₁ ≡ sets l 0 f = p ∙ sym (sets-front f l (omega arith)) in
    let o : 0 + length f ≡ length f = omega arith in
    put-part r l₁ m (omega arith) ∙ rw (q, e) (sym (rw o at (sets-append f r l 0)))
