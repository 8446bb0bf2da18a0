-- A packed form gives back its text and tag, and an accepted form is what packing makes of them; what such a form looks like. Assumes nothing.
use Prim.Native.Nat.{ℕ, ◌<◌, ◌≤◌}
use mathlib.Core.Path.{◌≡◌, refl, sym, ap, ◌∙◌}
use mathlib.Core.Logic.{◌≢◌, inl, inr}
use mathlib.Core.Bool.{true, false}
use mathlib.Core.List.{◌∷◌, ◌++◌}
use mathlib.Core.Option.{Option, none, some}
use native.Mathlib.Omega.{arith}
use borrow.Author.Tests.{ne_eqb, leb-true, leb-false, le-leb, lt-leb}
use lib.Dec.{eqb, leb}
use lib.ListN.{length, take, drop, length-take, length-append, take-append-drop}
use lib.Seq.{take-append_seam, drop-append_seam}
use Rattle.slices.specs.Bytes.{Bytes, is_empty}
use Rattle.slices.proofs.Tests.{Split, split, and_left, and_right, clash}
use Rattle.slices.proofs.Bytes.{bytes-true, bytes_same, not-empty}
use Rattle.encoding.specs.Encoding.{escaped}
use Rattle.refusals.specs.declared.Refusal.{Refusal}
use Rattle.string_dv_dict.specs.Packed.{packed, pair_refusal}
use Rattle.string_dv_dict.proofs.Laws.{legal-tagged}
use Rattle.string_dv_dict_split.specs.Forms.{before, behind, unescaped, tag_in, text_in, is_legal, accepted}
use Rattle.string_dv_dict_split.proofs.Escapes.{read-before, read-escaped, before_split}

-- ---- unpacking what was packed

pub parts-back : (text tag : Bytes) → is_empty tag ≡ false → (text_in (packed text tag) ≡ text) × (tag_in (packed text tag) ≡ tag)
unfolding packed text_in tag_in
parts-back text tag h = go (split (leb (length tag) 127))
  where
    go : Split (leb (length tag) 127) → (text_in (packed text tag) ≡ text) × (tag_in (packed text tag) ≡ tag)
    go (inl p) =
        let z : eqb (length tag) 0 ≡ false = ne_eqb (length tag) 0 (omega (arith, not-empty tag h)) in
        rw (p, z) (drop-append_seam tag text, take-append_seam tag text)
    go (inr p) =
        let b = read-before tag text in
        rw p (b.1, ap (λ (s : Bytes). unescaped false s) b.0 ∙ read-escaped tag)

-- The form of a legal text and tag is accepted, and gives them back.
pub pack-unpack : (text tag : Bytes) → pair_refusal text tag ≡ none
    → (accepted (packed text tag) ≡ true) × (text_in (packed text tag) ≡ text) × (tag_in (packed text tag) ≡ tag)
unfolding accepted
pack-unpack text tag e =
    let b = parts-back text tag (legal-tagged text tag e).tagged in
    (rw (b.0, b.1, e, bytes_same (packed text tag)), b.0, b.1)

is-none : (o : Option Refusal) → is_legal o ≡ true → o ≡ none
is-none none e = refl
is-none (some why) e = clash e refl

-- An accepted form is that of the legal text and tag which it gives.
pub unpack-pack : (form : Bytes) → accepted form ≡ true
    → (pair_refusal (text_in form) (tag_in form) ≡ none) × (packed (text_in form) (tag_in form) ≡ form)
unfolding accepted
unpack-pack form e = (
  is-none _ (and_left (is_legal (pair_refusal (text_in form) (tag_in form))) _ e),
  bytes-true _ _ (and_right (is_legal (pair_refusal (text_in form) (tag_in form))) _ e),
)

-- ---- what an accepted form looks like

pub short-form : (n : ℕ) (s : Bytes) → n ≢ 0 → (text_in (n ∷ s) ≡ drop n s) × (tag_in (n ∷ s) ≡ take n s)
unfolding text_in tag_in
short-form n s z = rw (ne_eqb n 0 z) (refl, refl)

-- One with a short tag.
pub record Short (n : ℕ) (s : Bytes) : Type 0 where
  pub low : n ≤ 127
  pub within : n ≤ length s
  pub pair : pair_refusal (drop n s) (take n s) ≡ none

pub accepted-short : (n : ℕ) (s : Bytes) → n ≢ 0 → accepted (n ∷ s) ≡ true → Short n s
unfolding packed
accepted-short n s z e =
    let p = short-form n s z in
    let u = unpack-pack (n ∷ s) e in
    let f : pair_refusal (drop n s) (take n s) ≡ none = rw (p.0, p.1) at u.0 in
    let g : packed (drop n s) (take n s) ≡ n ∷ s = rw (p.0, p.1) at u.1 in
    go f g (split (leb (length (take n s)) 127))
  where
    go : pair_refusal (drop n s) (take n s) ≡ none → packed (drop n s) (take n s) ≡ n ∷ s → Split (leb (length (take n s)) 127) → Short n s
    go f g (inl q) =
        let x : length (take n s) ∷ take n s ++ drop n s ≡ n ∷ s = rw q at g in
        let y : length (take n s) ≡ n = cc in
        record {
          low = omega (arith, leb-true);
          within = omega (arith, length-take n s);
          pair = f;
        }
    go f g (inr q) =
        let x : 0 ∷ escaped (take n s) ++ 62 ∷ drop n s ≡ n ∷ s = rw q at g in
        let y : 0 ≡ n = cc in absurd (z (sym y))

pub short-accepted : (n : ℕ) (s : Bytes) → n ≢ 0 → Short n s → accepted (n ∷ s) ≡ true
unfolding accepted packed
short-accepted n s z h =
    let p = short-form n s z in
    let l : length (take n s) ≡ n = simp length-take (omega (arith, h.within)) in
    rw (p.0, p.1, h.pair, l, le-leb n 127 h.low, take-append-drop n s) (bytes_same (n ∷ s))

-- One with a long tag.
pub record Long (s : Bytes) : Type 0 where
  pub ended : length (before s) < length s
  pub form : escaped (unescaped false (before s)) ≡ before s
  pub high : 127 < length (unescaped false (before s))
  pub pair : pair_refusal (behind s) (unescaped false (before s)) ≡ none

pub accepted-long : (s : Bytes) → accepted (0 ∷ s) ≡ true → Long s
unfolding packed text_in tag_in
accepted-long s e = go (unpack-pack (0 ∷ s) e) (split (leb (length (unescaped false (before s))) 127))
  where
    go : (pair_refusal (behind s) (unescaped false (before s)) ≡ none) × (packed (behind s) (unescaped false (before s)) ≡ 0 ∷ s)
        → Split (leb (length (unescaped false (before s))) 127)
        → Long s
    go u (inl q) =
        let tag = unescaped false (before s) in
        let x : length tag ∷ tag ++ behind s ≡ 0 ∷ s = rw q at u.1 in
        let y : length tag ≡ 0 = cc in
        absurd (omega (arith, not-empty tag (legal-tagged (behind s) tag u.0).tagged))
    go u (inr q) =
        let tag = unescaped false (before s) in
        let x : 0 ∷ escaped tag ++ 62 ∷ behind s ≡ 0 ∷ s = rw q at u.1 in
        let y : escaped tag ++ 62 ∷ behind s ≡ s = cc in
        let b : escaped tag ≡ before s = sym (read-before tag (behind s)).0 ∙ ap before y in
        let n : length (escaped tag ++ 62 ∷ behind s) ≡ length s = ap length y in
        record {
          ended = omega (arith, ap length b, simp length-append at n);
          form = b;
          high = leb-false _ _ q;
          pair = u.0;
        }

pub long-accepted : (s : Bytes) → Long s → accepted (0 ∷ s) ≡ true
unfolding accepted packed text_in tag_in
long-accepted s h =
    let b = before_split s h.ended in
    rw (h.pair, lt-leb _ 127 h.high, h.form, ← b.0) (bytes_same (0 ∷ s))
