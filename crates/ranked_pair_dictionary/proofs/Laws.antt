-- The frequent id is read back at every length, is as short as can be, and tells where it ends. Assumes nothing.
use Prim.Native.Nat.{ℕ, zero, suc, ◌+◌, ◌*◌, ◌/◌, ◌%◌, ◌^◌, ◌≤◌, ◌<◌}
use mathlib.Core.Path.{◌≡◌, refl, sym, ap, ◌∙◌}
use mathlib.Core.Logic.{inl, inr}
use mathlib.Core.List.{◌++◌}
use mathlib.Core.Option.{none, some}
use native.Mathlib.Nat.{div-one, div-div-eq-div-mul, div-lt_iff_lt-mul, one-le-pow, pow-suc}
use native.Mathlib.Numerals.{add-one}
use native.Mathlib.Omega.{arith}
use borrow.Author.Tests.{ltb-true, le-leb, lt-leb, lt-ltb, le-ltb}
use lib.Dec.{ltb}
use lib.ListN.{length, length-append}
use lib.Seq.{take_at, drop-append_seam}
use Rattle.slices.specs.Bytes.{Bytes}
use Rattle.slices.proofs.Tests.{Split, split}
use Rattle.refusals.specs.declared.Refusal.TheVariants.{ShortBuffer, HighNumber}
use Rattle.ranked_pair_dictionary.specs.declared.FrequentId.{FrequentId}
use Rattle.ranked_pair_dictionary.specs.FrequentId.{be, of_be, frequent_id, further_bytes, fid, write_refusal, read_as, read_further, read_fid_answer}

-- ---- the form, for every number n of further bytes

power : (n : ℕ) → 0 < 256 ^ n
power n = one-le-pow n 256 (omega arith)

-- What the first byte holds of f fits below its two top bits.
pub top : (n f : ℕ) → f < 64 * 256 ^ n → f / 256 ^ n < 64
top n f h = (div-lt_iff_lt-mul (power n)).1 h

pub length-be : (n x : ℕ) → length (be n x) ≡ n
length-be zero x = refl
length-be (suc n) x = ap suc (length-be n x)

pub length-frequent_id : (n f : ℕ) → length (frequent_id n f) ≡ n + 1
unfolding frequent_id
length-frequent_id n f = rw (add-one n, length-be n f)

of-be : (n x : ℕ) → of_be (x / 256 ^ n) (be n x) ≡ x
of-be zero x = div-one x
of-be (suc n) x =
    let d : x / 256 ^ n / 256 ≡ x / 256 ^ suc n = rw pow-suc (div-div-eq-div-mul x (256 ^ n) 256) in
    let e : x / 256 ^ suc n * 256 + x / 256 ^ n % 256 ≡ x / 256 ^ n = omega arith in
    ap (λ (v : ℕ). of_be v (be n x)) e ∙ of-be n x

-- Every length is read back by value, also one that is longer than needed.
pub read-written : (n f : ℕ) (rest : Bytes) → f < 64 * 256 ^ n → read_fid_answer (frequent_id n f ++ rest) ≡ read_as f (n + 1)
unfolding frequent_id read_fid_answer read_further
read-written n f rest h =
    let t = top n f h in
    let p : (64 * n + f / 256 ^ n) / 64 ≡ n = omega arith in
    let q : (64 * n + f / 256 ^ n) % 64 ≡ f / 256 ^ n = omega arith in
    let l : n ≤ length (be n f ++ rest) = omega (arith, length-append (be n f) rest, length-be n f) in
    rw (p, q, le-leb n (length (be n f ++ rest)) l, take_at (be n f) rest n (length-be n f), of-be n f)

-- ---- as few further bytes as can be

pub further-le : (f : ℕ) → further_bytes f ≤ 3
unfolding further_bytes
further-le f = go (split (ltb f (2 ^ 6))) (split (ltb f (2 ^ 14))) (split (ltb f (2 ^ 22)))
  where
    go : Split (ltb f (2 ^ 6)) → Split (ltb f (2 ^ 14)) → Split (ltb f (2 ^ 22)) → further_bytes f ≤ 3
    go (inl p) q r = rw p (omega arith)
    go (inr p) (inl q) r = rw (p, q) (omega arith)
    go (inr p) (inr q) (inl r) = rw (p, q, r) (omega arith)
    go (inr p) (inr q) (inr r) = rw (p, q, r) (omega arith)

pub fid-holds : (f : ℕ) → f < 2 ^ 30 → f < 64 * 256 ^ further_bytes f
unfolding further_bytes
fid-holds f h = go (split (ltb f (2 ^ 6))) (split (ltb f (2 ^ 14))) (split (ltb f (2 ^ 22)))
  where
    go : Split (ltb f (2 ^ 6)) → Split (ltb f (2 ^ 14)) → Split (ltb f (2 ^ 22)) → f < 64 * 256 ^ further_bytes f
    go (inl p) q r = rw p (omega (arith, ltb-true))
    go (inr p) (inl q) r = rw (p, q) (omega (arith, ltb-true))
    go (inr p) (inr q) (inl r) = rw (p, q, r) (omega (arith, ltb-true))
    go (inr p) (inr q) (inr r) = rw (p, q, r) (omega arith)

-- No fewer further bytes hold f.
pub fid-least : (f n : ℕ) → f < 64 * 256 ^ n → further_bytes f ≤ n
unfolding further_bytes
fid-least f zero h = rw (lt-ltb f (2 ^ 6) (omega arith)) (omega arith)
fid-least f (suc zero) h = go (split (ltb f (2 ^ 6)))
  where
    go : Split (ltb f (2 ^ 6)) → further_bytes f ≤ 1
    go (inl p) = rw p (omega arith)
    go (inr p) = rw (p, lt-ltb f (2 ^ 14) (omega arith)) (omega arith)
fid-least f (suc (suc zero)) h = go (split (ltb f (2 ^ 6))) (split (ltb f (2 ^ 14)))
  where
    go : Split (ltb f (2 ^ 6)) → Split (ltb f (2 ^ 14)) → further_bytes f ≤ 2
    go (inl p) q = rw p (omega arith)
    go (inr p) (inl q) = rw (p, q) (omega arith)
    go (inr p) (inr q) = rw (p, q, lt-ltb f (2 ^ 22) (omega arith)) (omega arith)
fid-least f (suc (suc (suc n))) h = omega (arith, further-le f)

-- ---- the frequent id that is written

pub length-fid : (f : ℕ) → length (fid f) ≡ further_bytes f + 1
unfolding fid
length-fid f = length-frequent_id (further_bytes f) f

pub fid-read : (f : ℕ) (rest : Bytes) → f < 2 ^ 30 → read_fid_answer (fid f ++ rest) ≡ read_as f (length (fid f))
unfolding fid
fid-read f rest h = read-written (further_bytes f) f rest (fid-holds f h) ∙ ap (λ (n : ℕ). read_as f n) (sym (length-fid f))

-- If two frequent ids with their rests are equal bytes, the numbers are equal, and so are the rests.
pub fid-same : (f g : ℕ) (r s : Bytes) → f < 2 ^ 30 → g < 2 ^ 30 → fid f ++ r ≡ fid g ++ s → (f ≡ g) × (r ≡ s)
fid-same f g r s hf hg e =
    let v : read_as f (length (fid f)) ≡ read_as g (length (fid g)) = sym (fid-read f r hf) ∙ ap read_fid_answer e ∙ fid-read g s hg in
    let w : ◌≡◌ {A = FrequentId} (record { value = f; length = length (fid f) }) (record { value = g; length = length (fid g) }) = cc in
    let p : f ≡ g = ap (λ (x : FrequentId). x.value) w in
    (p, cc (drop-append_seam (fid f) r, drop-append_seam (fid g) s))

-- ---- when the writing is refused

pub write-high : (value room : ℕ) → 2 ^ 30 ≤ value → write_refusal value room ≡ some HighNumber
unfolding write_refusal
write-high value room h = rw (le-leb (2 ^ 30) value h)

pub write-short : (value room : ℕ) → value < 2 ^ 30 → room ≤ further_bytes value → write_refusal value room ≡ some ShortBuffer
unfolding write_refusal
write-short value room h k = rw (lt-leb (2 ^ 30) value h, length-fid value, lt-ltb room (further_bytes value + 1) (omega arith))

pub write_done : (value room : ℕ) → value < 2 ^ 30 → further_bytes value < room → write_refusal value room ≡ none
unfolding write_refusal
write_done value room h k = rw (lt-leb (2 ^ 30) value h, length-fid value, le-ltb room (further_bytes value + 1) (omega arith))
