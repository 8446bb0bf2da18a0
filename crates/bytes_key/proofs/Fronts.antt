-- A key's lengths, and a front with n bytes more. Assumes nothing.
use mathlib.Core.Path.{◌≡◌}
use mathlib.Core.Logic.{◌≢◌}
use mathlib.Core.Bool.{true, false}
use mathlib.Core.List.{[], ◌∷◌, ◌++◌}
use Prim.Native.Nat.{ℕ, ◌+◌, ◌^◌, ◌<◌}
use native.Mathlib.Omega.{arith}
use lib.Dec.{eqb}
use lib.ListN.{length, take, length-append}
use lib.Seq.{take-append_seam}
use borrow.Author.Tests.{eqb-true, eq-eqb, ne_eqb}
use Rattle.slices.specs.Bytes.{Bytes, same_bytes}
use Rattle.slices.proofs.Bytes.{bytes-true, bytes_same}
use Rattle.slices.proofs.Tests.{and_left, and_right}
use Rattle.parts.specs.Parts.{part_bytes}
use Rattle.bytes_key.specs.declared.Key.{Key}
use Rattle.bytes_key.specs.declared.Parts.{Parts}
use Rattle.bytes_key.specs.Keys.{front_is}
use Rattle.bytes_key.specs.KeyBytes.{stored}

-- ---- a key

pub length-key : (x : Parts) → length (stored x) ≡ length (part_bytes x.front) + length (part_bytes x.rest)
length-key x = length-append (part_bytes x.front) (part_bytes x.rest)

-- Each of its parts fits 64 bits.
pub key_fits : (key : Key) → (length (part_bytes key.parts.front) < 2 ^ 64) × (length (part_bytes key.parts.rest) < 2 ^ 64)
key_fits key =
    let l = length-key key.parts in
    (omega (arith, key.fits), omega (arith, key.fits))

-- ---- a front and n bytes more

pub front-short : (x f : Bytes) (n : ℕ) → length x ≢ length f + n → front_is x f n ≡ false
unfolding front_is
front-short x f n h = rw (ne_eqb (length x) (length f + n) h)

-- No front.
pub front-none : (x f : Bytes) (n : ℕ) → length f ≡ 0 → length x ≡ n → front_is x f n ≡ true
unfolding front_is
front-none x [] n z h = rw (eq-eqb (length x) (0 + n) (omega arith))
front-none x (a ∷ f) n z h = absurd (omega arith)

-- A front of m bytes decides.
pub front_same : (x f : Bytes) (n m : ℕ) → m ≡ length f → length x ≡ m + n → same_bytes f (take m x) ≡ front_is x f n
unfolding front_is
front_same x f n m e h = rw (e, eq-eqb (length x) (length f + n) (omega arith))

pub front-facts : (x f : Bytes) (n : ℕ) → front_is x f n ≡ true → (length x ≡ length f + n) × (f ≡ take (length f) x)
unfolding front_is
front-facts x f n e = (
  eqb-true (length x) (length f + n) (and_left (eqb (length x) (length f + n)) _ e),
  bytes-true f (take (length f) x) (and_right (eqb (length x) (length f + n)) _ e),
)

pub front-own : (f y : Bytes) → front_is (f ++ y) f (length y) ≡ true
unfolding front_is
front-own f y = rw (eq-eqb (length (f ++ y)) (length f + length y) (length-append f y), take-append_seam f y) (bytes_same f)
