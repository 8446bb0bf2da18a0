-- The comparison of a rest with the last stored bytes: none agree, or all are compared at once. Assumes nothing.
use mathlib.Core.Path.{◌≡◌, sym, ap, ◌∙◌}
use mathlib.Core.Bool.{true, false}
use Prim.Native.Nat.{ℕ, ◌+◌, ◌-◌, ◌≤◌, ◌<◌}
use native.Mathlib.Omega.{arith}
use lib.ListN.{length, get_or, take, drop, length-take, length-drop}
use lib.Seq.{ext_get_or, get_or-take, get_or-drop}
use Rattle.slices.specs.Bytes.{Bytes, same_bytes}
use Rattle.slices.proofs.Bytes.{bytes-true, bytes_same}
use Rattle.slices.proofs.Tests.{clash}
use Rattle.parts.specs.declared.Mode.{Mode}
use Rattle.parts.specs.declared.Mode.TheVariants.{Raw}
use Rattle.parts.specs.Parts.{bytes_of}
use Rattle.bytes_key.specs.Keys.{Agree, Agreeing}

-- A raw part is its own stored bytes.
pub raw : (mode : Mode) (s : Bytes) → mode ≡ Raw → bytes_of mode s ≡ s
unfolding bytes_of
raw mode s e = rw e

pub no_more : (pages : Bytes) (end : ℕ) (rest : Bytes) (left : ℕ) → (Agree pages end rest 0 (length rest) → ⊥) → Agreeing pages end rest left 0
no_more pages end rest left h = record { within = omega arith; same = λ k l u. absurd (omega arith); differ = λ z. h }

-- The end of the stored bytes that the rest is compared with.
module _ (stored rest : Bytes) (fits : length rest ≤ length stored) where
  part : Bytes
  part = take (length stored - (length stored - length rest)) (drop (length stored - length rest) stored)

  part-byte : (i : ℕ) → i < length rest → get_or part i 0 ≡ get_or stored (length stored - (length rest - i)) 0
  unfolding part
  part-byte i l =
      let e : length stored - length rest + i ≡ length stored - (length rest - i) = omega arith in
      get_or-take (length stored - (length stored - length rest)) (drop (length stored - length rest) stored) i 0 (omega arith) ∙ get_or-drop (length stored - length rest) stored i 0 ∙ ap (λ (x : ℕ). get_or stored x 0) e

  bytes-part : Agree stored (length stored) rest 0 (length rest) → part ≡ rest
  unfolding part
  bytes-part h =
      let l : length part ≡ length rest = simp (length-take, length-drop) (omega arith) in
      ext_get_or 0 part rest l
      (λ i g.
      let e : length rest - (length rest - i) ≡ i = omega arith in
      part-byte i (omega arith) ∙ h (length rest - i) (omega arith) (omega arith) ∙ ap (λ (x : ℕ). get_or rest x 0) e)

  part_bytes : rest ≡ part → Agree stored (length stored) rest 0 (length rest)
  part_bytes e k l u =
      let p : length rest - (length rest - k) ≡ k = omega arith in
      sym (part-byte (length rest - k) (omega arith) ∙ ap (λ (x : ℕ). get_or stored (length stored - x) 0) p)
      ∙ ap (λ (x : Bytes). get_or x (length rest - k) 0) (sym e)

  -- The rest was compared with the part at once, and is not the same;
  pub at-once-not : (left : ℕ) → same_bytes rest (take (length stored - (length stored - length rest)) (drop (length stored - length rest) stored)) ≡ false → Agreeing stored (length stored) rest left 0
  unfolding part
  at-once-not left e = no_more stored (length stored) rest left (λ h. clash (ap (same_bytes rest) (bytes-part h) ∙ bytes_same rest) e)

  -- or it is.
  pub at_once : (left : ℕ) → 0 < left → left ≤ length rest → same_bytes rest (take (length stored - (length stored - length rest)) (drop (length stored - length rest) stored)) ≡ true
      → Agreeing stored (length stored) rest left left
  unfolding part
  at_once left z m e =
      let p = part_bytes (bytes-true rest _ e) in
      record { within = omega arith; same = λ k l u. p k (omega arith) (omega arith); differ = λ d. absurd (omega arith) }
