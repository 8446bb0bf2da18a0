-- `same_bytes` answers true exactly if both lists are equal. Assumes nothing.
use Prim.Native.Nat.{◌<◌}
use mathlib.Core.Path.{◌≡◌, refl, sym}
use mathlib.Core.Bool.{true, false, false≢true}
use mathlib.Core.List.{[], ◌∷◌}
use native.Mathlib.Omega.{arith}
use lib.Dec.{eqb}
use lib.ListN.{length}
use borrow.Author.Tests.{eqb-true, eq-eqb}
use Rattle.slices.specs.Bytes.{Bytes, is_empty, same_bytes}
use Rattle.slices.proofs.Tests.{and_left, and_right}

pub bytes-true : (x y : Bytes) → same_bytes x y ≡ true → x ≡ y
bytes-true [] [] e = refl
bytes-true [] (b ∷ y) e = absurd (false≢true e)
bytes-true (a ∷ x) [] e = absurd (false≢true e)
bytes-true (a ∷ x) (b ∷ y) e =
    let p : a ≡ b = eqb-true a b (and_left (eqb a b) (same_bytes x y) e) in
    let q : x ≡ y = bytes-true x y (and_right (eqb a b) (same_bytes x y) e) in
    cc

pub bytes_same : (x : Bytes) → same_bytes x x ≡ true
bytes_same [] = refl
bytes_same (a ∷ x) = rw (eq-eqb a a refl) (bytes_same x)

pub not-empty : (x : Bytes) → is_empty x ≡ false → 0 < length x
not-empty [] e = absurd (false≢true (sym e))
not-empty (a ∷ x) e = omega arith
