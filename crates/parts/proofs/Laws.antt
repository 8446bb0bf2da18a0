-- How long a stored part is; storing and comparing one part after the other. Assumes nothing.
use Prim.Native.Nat.{ℕ, suc, ◌+◌, ◌*◌, ◌≤◌, ◌<◌}
use mathlib.Core.Path.{◌≡◌, refl, ap, ◌∙◌}
use mathlib.Core.Logic.{inl, inr, ◌≢◌}
use mathlib.Core.Bool.{Bool, true, false, ◌&&◌}
use mathlib.Core.List.{[], ◌∷◌, ◌++◌}
use native.Mathlib.Nat.{zero-add}
use native.Mathlib.Omega.{arith}
use lib.Dec.{eqb}
use lib.ListN.{length, get_or, take, drop, set, length-append}
use lib.Seq.{sets, sets-eq}
use Rattle.std.proofs.lemmas.List.Sums.{sum_by-cons}
use Rattle.std.specs.List.{fold, sum_by}
use Rattle.slices.specs.Bytes.{Bytes, same_bytes}
use Rattle.slices.proofs.Tests.{Split, split}
use Rattle.fnv.specs.Fnv.{fnv_from}
use Rattle.fnv.proofs.Laws.{fnv-append}
use Rattle.encoding.specs.declared.Form.{Form}
use Rattle.encoding.specs.Encoding.{form_of, encoded_byte, encoded_end, encoded}
use Rattle.encoding.proofs.Laws.{length-encoded, tag-bytes, encoded-more, encoded-end}
use Rattle.parts.specs.declared.Mode.{Mode}
use Rattle.parts.specs.declared.Mode.TheVariants.{Raw, Tag}
use Rattle.parts.specs.Parts.{bytes_of}

pub length-bytes : (m : Mode) (s : Bytes) → length (bytes_of m s) ≤ 2 * length s + 2
unfolding bytes_of
length-bytes Raw s = omega arith
length-bytes Tag s = rw (tag-bytes s) (omega (arith, length-encoded (form_of s) s))

-- What is left at i is as long as what is stored there and what is left behind it.
pub length-more : (form : Form) (i : ℕ) (s x : Bytes) → i < length s → x ≡ encoded_byte form (get_or s i 0)
    → length (encoded form (drop i s)) ≡ length x + length (encoded form (drop (i + 1) s))
length-more form i s x l e = rw (encoded-more form i s x l e) (length-append x (encoded form (drop (i + 1) s)))

pub length-end : (form : Form) (i : ℕ) (s x : Bytes) → length s ≤ i → x ≡ encoded_end form → length (encoded form (drop i s)) ≡ length x
length-end form i s x l e = ap length (encoded-end form i s x l e)

-- The length of what is stored is the sum over the bytes, and the end's.
pub length-sum : (form : Form) (s : Bytes) → length (encoded form s) ≡ sum_by (λ b. length (encoded_byte form b)) s + length (encoded_end form)
unfolding encoded
length-sum form [] = omega arith
length-sum form (b ∷ s) =
    rw (length-append, sum_by-cons (λ a. length (encoded_byte form a)) b s) (omega (arith, length-sum form s))

-- The hash is taken on over what is stored for each byte, and then over the end.
pub fnv-fold : (form : Form) (s : Bytes) (h : ℕ)
    → fnv_from h (encoded form s) ≡ fnv_from (fold (λ a b. fnv_from a (encoded_byte form b)) h s) (encoded_end form)
unfolding encoded
fnv-fold form [] h = refl
fnv-fold form (b ∷ s) h = fnv-append (encoded_byte form b) (encoded form s) h ∙ fnv-fold form s (fnv_from h (encoded_byte form b))

-- ---- storing and comparing, one part after the other

-- Two runs of stores, one after the other.
pub sets-append : (vs ws l : Bytes) (i : ℕ) → sets l i (vs ++ ws) ≡ sets (sets l i vs) (i + length vs) ws
sets-append [] ws l i = let e : i + 0 ≡ i = omega arith in rw e
sets-append (a ∷ vs) ws l i =
    let e : i + suc (length vs) ≡ suc i + length vs = omega arith in
    rw e (sets-append vs ws (set l i a) (suc i))

-- A run of stores at the front.
pub sets-front : (vs l : Bytes) → length vs ≤ length l → sets l 0 vs ≡ vs ++ drop (length vs) l
sets-front vs l h =
    let e : 0 + length vs ≡ length vs = zero-add (length vs) in
    rw e at (sets-eq vs l 0 (omega arith))

and_assoc : (a b c : Bool) → (a && (b && c)) ≡ ((a && b) && c)
and_assoc true b c = refl
and_assoc false b c = refl

-- A comparison, one part after the other.
pub same-append : (x y s : Bytes) → same_bytes (x ++ y) s ≡ (same_bytes x (take (length x) s) && same_bytes y (drop (length x) s))
same-append [] y s = refl
same-append (a ∷ x) y [] = refl
same-append (a ∷ x) y (b ∷ s) = rw (same-append x y s, and_assoc)

-- Lists of different lengths are not the same.
pub same_length : (x y : Bytes) → (length x ≢ length y) → same_bytes x y ≡ false
same_length [] [] n = absurd (n refl)
same_length [] (b ∷ y) n = refl
same_length (a ∷ x) [] n = refl
same_length (a ∷ x) (b ∷ y) n = go (split (eqb a b)) (same_length x y (λ e. n (ap suc e)))
  where
    go : Split (eqb a b) → same_bytes x y ≡ false → (eqb a b && same_bytes x y) ≡ false
    go (inl p) ih = rw p ih
    go (inr p) ih = rw p
