-- Two runs of bytes from a buffer's start, one behind the other: both stand there, and the rest is as found. Assumes nothing.
use Prim.Native.Nat.{ℕ, ◌+◌, ◌-◌, ◌≤◌}
use mathlib.Core.Path.{◌≡◌, sym, ap, ◌∙◌}
use mathlib.Core.List.{◌++◌}
use native.Mathlib.Nat.{zero-add}
use native.Mathlib.Omega.{arith}
use lib.ListN.{length, take, drop, length-append, length-take, length-drop}
use lib.Seq.{sets}
use Rattle.slices.specs.Bytes.{Bytes}
use Rattle.slices.proofs.Sets.{sets-mid}
use Rattle.parts.proofs.Laws.{sets-append, sets-front}

-- As stores.
pub two-parts : (x y b : Bytes) → length x + length y ≤ length b
    → sets (sets b 0 x) (length x) y ≡ (x ++ y) ++ drop (length (x ++ y)) b
two-parts x y b h =
    let e : 0 + length x ≡ length x = zero-add (length x) in
    let f = sets-append x y b 0 in
    let g : sets b 0 (x ++ y) ≡ sets (sets b 0 x) (length x) y = rw e at f in
    sym g ∙ sets-front (x ++ y) b (simp length-append h)

-- As a write at the front of what begins at `at`.
pub written-from : (x d : Bytes) (at : ℕ) → at + length x ≤ length d →
    let k = length d - at in take at d ++ ((x ++ drop (length x) (take k (drop at d))) ++ drop k (drop at d)) ≡ sets d at x
written-from x d at h =
    let k = length d - at in
    let room : length x ≤ length (take k (drop at d)) = simp (length-take, length-drop) (omega arith) in
    rw (← sets-front x (take k (drop at d)) room) (sets-mid x d at k (omega arith) (omega arith))

-- As two writes: x at the front of b gives d, and y at the front of what follows x gives s.
pub two-written : (x y b d s : Bytes) (at : ℕ) → length x + length y ≤ length b → at ≡ length x → d ≡ x ++ drop (length x) b
    → s ≡ y ++ drop (length y) (take (length d - at) (drop at d))
    → take at d ++ (s ++ drop (length d - at) (drop at d)) ≡ (x ++ y) ++ drop (length (x ++ y)) b
two-written x y b d s at h a e f =
    let g : d ≡ sets b 0 x = e ∙ sym (sets-front x b (omega arith)) in
    let l : length d ≡ length b = ap length e ∙ simp (length-append, length-drop) (omega arith) in
    let w : sets d at y ≡ (x ++ y) ++ drop (length (x ++ y)) b = rw (g, a) (two-parts x y b h) in
    rw f (written-from y d at (omega arith) ∙ w)
