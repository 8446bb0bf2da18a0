-- An escaped tag is read back, and only an escaped tag scans well. Assumes nothing.
use Prim.Native.Nat.{ℕ, suc, ◌+◌, ◌<◌}
use mathlib.Core.Path.{◌≡◌, refl, ap}
use mathlib.Core.Logic.{inl, inr}
use mathlib.Core.Bool.{true, false}
use mathlib.Core.List.{[], ◌∷◌, ◌++◌}
use native.Mathlib.Omega.{arith}
use borrow.Author.Tests.{eqb-true}
use lib.Dec.{eqb}
use lib.ListN.{length, take, drop}
use Rattle.std.specs.Prelude.{Some, None}
use Rattle.slices.specs.Bytes.{Bytes}
use Rattle.slices.proofs.Tests.{Split, split}
use Rattle.encoding.specs.Encoding.{escape, escaped}
use Rattle.string_dv_dict_split.specs.declared.Scan.TheVariants.{Whole, Escape}
use Rattle.string_dv_dict_split.specs.Forms.{before, behind, unescaped}
use Rattle.string_dv_dict_split.specs.Scans.{scan_from}

-- No '>' stands in an escaped tag.
pub read-before : (t x : Bytes) → (before (escaped t ++ 62 ∷ x) ≡ escaped t) × (behind (escaped t ++ 62 ∷ x) ≡ x)
unfolding escape escaped before behind
read-before [] x = (refl, refl)
read-before (c ∷ t) x = go (split (eqb c 92)) (split (eqb c 62)) (read-before t x)
  where
    go : Split (eqb c 92) → Split (eqb c 62) → (before (escaped t ++ 62 ∷ x) ≡ escaped t) × (behind (escaped t ++ 62 ∷ x) ≡ x)
        → (before (escaped (c ∷ t) ++ 62 ∷ x) ≡ escaped (c ∷ t)) × (behind (escaped (c ∷ t) ++ 62 ∷ x) ≡ x)
    go (inl p) q ih = rw p (ap (λ (s : Bytes). 92 ∷ 92 ∷ s) ih.0, ih.1)
    go (inr p) (inl q) ih = rw (p, q) (ap (λ (s : Bytes). 92 ∷ 97 ∷ s) ih.0, ih.1)
    go (inr p) (inr q) ih = rw (p, q, q) (ap (λ (s : Bytes). c ∷ s) ih.0, ih.1)

pub read-escaped : (t : Bytes) → unescaped false (escaped t) ≡ t
unfolding escape escaped unescaped
read-escaped [] = refl
read-escaped (c ∷ t) = go (split (eqb c 92)) (split (eqb c 62)) (read-escaped t)
  where
    go : Split (eqb c 92) → Split (eqb c 62) → unescaped false (escaped t) ≡ t → unescaped false (escaped (c ∷ t)) ≡ c ∷ t
    go (inl p) q ih = let e : c ≡ 92 = eqb-true c 92 p in rw p (cc)
    go (inr p) (inl q) ih = let e : c ≡ 62 = eqb-true c 62 q in rw (p, q) (cc)
    go (inr p) (inr q) ih = rw (p, q, p) (ap (λ (s : Bytes). c ∷ s) ih)

-- ---- the scan

pub scan-bad : (s : Bytes) → scan_from None s ≡ None
unfolding scan_from
scan-bad [] = refl
scan-bad (c ∷ s) = scan-bad s

-- An escaped tag scans to its length.
pub scan-escaped : (t : Bytes) (n : ℕ) → scan_from (Some (Whole n)) (escaped t) ≡ Some (Whole (n + length t))
unfolding escape escaped scan_from
scan-escaped [] n = let e : n + 0 ≡ n = omega arith in rw e
scan-escaped (c ∷ t) n = go (split (eqb c 92)) (split (eqb c 62)) (scan-escaped t (n + 1))
  where
    go : Split (eqb c 92) → Split (eqb c 62) → scan_from (Some (Whole (n + 1))) (escaped t) ≡ Some (Whole (n + 1 + length t))
        → scan_from (Some (Whole n)) (escaped (c ∷ t)) ≡ Some (Whole (n + suc (length t)))
    go p q ih = let e : n + suc (length t) ≡ n + 1 + length t = omega arith in rw e (each p q)
      where
        each : Split (eqb c 92) → Split (eqb c 62) → scan_from (Some (Whole n)) (escaped (c ∷ t)) ≡ Some (Whole (n + 1 + length t))
        each (inl p) q = rw p ih
        each (inr p) (inl q) = rw (p, q) ih
        each (inr p) (inr q) = rw (p, q, q, p) ih

-- What scans to a length is the escaped form of what it unescapes to, which has that length: outside an escape, and behind a '\'.
abbrev Outside : Bytes → Type 0
Outside s = (n m : ℕ) → scan_from (Some (Whole n)) s ≡ Some (Whole m) → (escaped (unescaped false s) ≡ s) × (m ≡ n + length (unescaped false s))

abbrev Behind : Bytes → Type 0
Behind s = (n m : ℕ) → scan_from (Some (Escape n)) s ≡ Some (Whole m) → (escaped (unescaped true s) ≡ 92 ∷ s) × (m ≡ n + length (unescaped true s))

both : (s : Bytes) → Outside s × Behind s
unfolding escape escaped unescaped scan_from
both [] = (λ n m e. let u : n ≡ m = cc in (refl, omega arith), λ n m e. cc)
both (c ∷ s) = (outside (both s), after (both s))
  where
    outside : Outside s × Behind s → Outside (c ∷ s)
    outside ih n m e = go (split (eqb c 62)) (split (eqb c 92))
      where
        go : Split (eqb c 62) → Split (eqb c 92) → (escaped (unescaped false (c ∷ s)) ≡ c ∷ s) × (m ≡ n + length (unescaped false (c ∷ s)))
        go (inl p) q =
            let x : scan_from None s ≡ Some (Whole m) = rw p at e in
            cc (scan-bad s)
        go (inr p) (inl q) =
            let x : scan_from (Some (Escape n)) s ≡ Some (Whole m) = rw (p, q) at e in
            let h = ih.1 n m x in
            let k : c ≡ 92 = eqb-true c 92 q in
            rw q (rw k h.0, h.1)
        go (inr p) (inr q) =
            let x : scan_from (Some (Whole (n + 1))) s ≡ Some (Whole m) = rw (p, q) at e in
            let h = ih.0 (n + 1) m x in
            rw (q, q, p) (ap (λ (l : Bytes). c ∷ l) h.0, omega (arith, h.1))

    after : Outside s × Behind s → Behind (c ∷ s)
    after ih n m e = go (split (eqb c 92)) (split (eqb c 97))
      where
        go : Split (eqb c 92) → Split (eqb c 97) → (escaped (unescaped true (c ∷ s)) ≡ 92 ∷ c ∷ s) × (m ≡ n + length (unescaped true (c ∷ s)))
        go (inl p) q =
            let x : scan_from (Some (Whole (n + 1))) s ≡ Some (Whole m) = rw p at e in
            let h = ih.0 (n + 1) m x in
            let k : c ≡ 92 = eqb-true c 92 p in
            rw k (ap (λ (l : Bytes). 92 ∷ 92 ∷ l) h.0, omega (arith, h.1))
        go (inr p) (inl q) =
            let x : scan_from (Some (Whole (n + 1))) s ≡ Some (Whole m) = rw (p, q) at e in
            let h = ih.0 (n + 1) m x in
            let k : c ≡ 97 = eqb-true c 97 q in
            rw k (ap (λ (l : Bytes). 92 ∷ 97 ∷ l) h.0, omega (arith, h.1))
        go (inr p) (inr q) =
            let x : scan_from None s ≡ Some (Whole m) = rw (p, q) at e in
            cc (scan-bad s)

-- A run of bytes scans to m exactly if it is the escaped form of m bytes, which are what it unescapes to.
pub scan_good : (s : Bytes) (m : ℕ) → scan_from (Some (Whole 0)) s ≡ Some (Whole m) → (escaped (unescaped false s) ≡ s) × (m ≡ length (unescaped false s))
scan_good s m e = let h = (both s).0 0 m e in (h.0, omega (arith, h.1))

-- ---- the first '>'

-- The bytes up to it, and where it stands.
pub take-before : (s : Bytes) → take (length (before s)) s ≡ before s
unfolding before
take-before [] = refl
take-before (c ∷ s) = go (split (eqb c 62)) (take-before s)
  where
    go : Split (eqb c 62) → take (length (before s)) s ≡ before s → take (length (before (c ∷ s))) (c ∷ s) ≡ before (c ∷ s)
    go (inl p) ih = rw p
    go (inr p) ih = rw p (ap (λ (l : Bytes). c ∷ l) ih)

pub before_split : (s : Bytes) → length (before s) < length s → (s ≡ before s ++ 62 ∷ behind s) × (behind s ≡ drop (suc (length (before s))) s)
unfolding before behind
before_split [] h = absurd (omega arith)
before_split (c ∷ s) h = go (split (eqb c 62)) (before_split s)
  where
    go : Split (eqb c 62) → (length (before s) < length s → (s ≡ before s ++ 62 ∷ behind s) × (behind s ≡ drop (suc (length (before s))) s))
        → (c ∷ s ≡ before (c ∷ s) ++ 62 ∷ behind (c ∷ s)) × (behind (c ∷ s) ≡ drop (suc (length (before (c ∷ s)))) (c ∷ s))
    go (inl p) ih = rw p (ap (λ (b : ℕ). b ∷ s) (eqb-true c 62 p), refl)
    go (inr p) ih =
        let k : suc (length (before s)) < suc (length s) = rw p at h in
        let g = ih (omega arith) in
        rw p (ap (λ (l : Bytes). c ∷ l) g.0, g.1)
