-- Parts of a list, and parts of these parts. Assumes nothing.
use Prim.Native.Nat.{ℕ, ◌+◌, ◌-◌, ◌≤◌}
use mathlib.Core.Path.{◌≡◌, sym, ap, ◌∙◌}
use native.Mathlib.Omega.{arith}
use lib.ListN.{length, take, drop, length-drop}
use lib.Seq.{length-take-le, take-take, drop-drop}
use Rattle.std.proofs.lemmas.List.{drop-take}
use Rattle.slices.specs.Bytes.{Bytes}

module _ (xs : Bytes) (at len : ℕ) where
  pub length_cut : at + len ≤ length xs → length (take len (drop at xs)) ≡ len
  length_cut fits = length-take-le len (drop at xs) (simp length-drop (omega arith))

  -- What is left of a part behind m elements.
  pub cut-behind : (m : ℕ) → m ≤ len → take (len - m) (drop (at + m) xs) ≡ drop m (take len (drop at xs))
  cut-behind m h =
      let n : m + (len - m) ≡ len = omega arith in
      ap (take (len - m)) (sym (drop-drop m at xs))
      ∙ sym (drop-take m (len - m) (drop at xs))
      ∙ ap (λ (j : ℕ). drop m (take j (drop at xs))) n

  -- n elements of a part, behind m.
  pub cut-inner : (m n : ℕ) → m + n ≤ len → take n (drop (at + m) xs) ≡ take n (drop m (take len (drop at xs)))
  cut-inner m n h =
      sym (take-take n (len - m) (drop (at + m) xs) (omega arith))
      ∙ ap (take n) (cut-behind m (omega arith))
