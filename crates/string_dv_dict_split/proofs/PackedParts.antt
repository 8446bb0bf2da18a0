-- The shape of a form that was split, and when packing makes such a form. Assumes nothing.
use Prim.Native.Nat.{ℕ, suc, ◌+◌, ◌-◌, ◌<◌, ◌≤◌}
use mathlib.Core.Path.{◌≡◌, refl, sym, ap, subst, ◌∙◌}
use mathlib.Core.Logic.{◌≢◌, inl, inr}
use mathlib.Core.Bool.{Bool, true, false, ◌&&◌}
use mathlib.Core.List.{[], ◌∷◌}
use mathlib.Core.Option.{none, some}
use mathlib.Core.Option as O
use native.Mathlib.Nat.{zero-add}
use native.Mathlib.Omega.{arith}
use lib.Dec.{eqb, leb, ltb}
use lib.ListN.{length, take, drop, length-drop}
use lib.Seq.{take_all, drop-drop, length-take-le}
use borrow.Author.Tests.{eqb-true, eqb-false, leb-true, leb-false, le-leb, ltb-true, ltb-false, lt-ltb}
use Rattle.std.specs.Prelude.{Option, Some, None}
use Rattle.slices.specs.Bytes.{Bytes}
use Rattle.refusals.specs.declared.Refusal.{Refusal}
use Rattle.slices.proofs.Tests.{Split, split, clash, and_left, and_right, same_test}
use Rattle.layout.specs.Sizes.{name_limit}
use Rattle.utf8.specs.Text.{is_text}
use Rattle.encoding.specs.Encoding.{escaped}
use Rattle.encoding.proofs.Laws.{length-escaped}
use Rattle.string_dv_dict_split.specs.declared.Scan.{Scan}
use Rattle.string_dv_dict_split.specs.declared.Scan.TheVariants.{Whole, Escape}
use Rattle.string_dv_dict_split.specs.declared.Form.{Form}
use Rattle.string_dv_dict_split.specs.declared.Form.TheVariants as F
use Rattle.string_dv_dict.specs.Packed.{pair_refusal, LegalTagged}
use Rattle.string_dv_dict_split.specs.Forms.{before, unescaped, tag_in, text_in, is_legal, accepted}
use Rattle.string_dv_dict_split.specs.Scans.{scan_from, long_by, long_split, split_of, form_of, ShortForm, LongForm, Splits}
use Rattle.string_dv_dict_split.proofs.Escapes.{read-escaped, scan-escaped, scan_good, take-before, before_split}
use Rattle.string_dv_dict.proofs.Laws.{legal-tagged, has-bytes, is-legal}
use Rattle.string_dv_dict_split.proofs.Laws.{unpack-pack, short-form, accepted-short, short-accepted, Long, accepted-long, long-accepted}

-- A part that runs to the end, and one that starts behind the first byte.
pub to_end : (s : Bytes) (k : ℕ) → take (length s - k) (drop k s) ≡ drop k s
to_end s k = take_all (length s - k) (drop k s) (simp length-drop (omega arith))

behind-first : (s : Bytes) (n : ℕ) → take (n + 1 - 1) (drop 1 s) ≡ take n (drop 1 s)
behind-first s n = let e : n + 1 - 1 ≡ n = omega arith in rw e

not-accepted : (form : Bytes) → (accepted form ≡ true → ⊥) → accepted form ≡ false
not-accepted form never = go (split (accepted form))
  where
    go : Split (accepted form) → accepted form ≡ false
    go (inl p) = absurd (never p)
    go (inr p) = p

-- ---- what was split

record IsShort (form : Bytes) (n : ℕ) : Type 0 where
  whole : n ∷ drop 1 form ≡ form
  filled : n ≢ 0
  within : n ≤ length (drop 1 form)

record IsLong (form : Bytes) (end n : ℕ) : Type 0 where
  whole : 0 ∷ drop 1 form ≡ form
  ended : length (before (drop 1 form)) < length (drop 1 form)
  stands : end ≡ length (before (drop 1 form))
  tag : escaped (unescaped false (before (drop 1 form))) ≡ before (drop 1 form)
  size : n ≡ length (unescaped false (before (drop 1 form)))

abbrev Is : Bytes → Option Form → Type 0
Is form (Some (F.Short n)) = IsShort form n
Is form (Some (F.Long end n)) = IsLong form end n
Is form None = accepted form ≡ false

none-legal : (o : O.Option Refusal) → is_legal o ≡ true → o ≡ none
none-legal none e = refl
none-legal (some why) e = clash e refl

empty-cut : accepted [] ≡ false
unfolding tag_in
empty-cut = not-accepted [] (λ p. clash refl (legal-tagged (text_in []) (tag_in []) (unpack-pack [] p).0).tagged)

-- What stands before the first '>' of an accepted form scans well.
scans : (s : Bytes) → Long s → scan_from (Some (Whole 0)) (before s) ≡ Some (Whole (length (unescaped false (before s))))
scans s h =
    let tag = unescaped false (before s) in
    ap (λ (x : Bytes). scan_from (Some (Whole 0)) x) (sym h.form) ∙ scan-escaped tag 0 ∙ ap (λ (k : ℕ). Some (Whole k)) (zero-add (length tag))

is-long : (s : Bytes) → Is (0 ∷ s) (long_split s)
unfolding long_split
is-long s = go (split (ltb (length (before s)) (length s)))
  where
    by : length (before s) < length s → (r : Option Scan) → scan_from (Some (Whole 0)) (before s) ≡ r → Is (0 ∷ s) (long_by (length (before s)) r)
    by l (Some (Whole n)) e = let g = scan_good (before s) n e in record { whole = refl; ended = l; stands = refl; tag = g.0; size = g.1 }
    by l (Some (Escape n)) e = not-accepted (0 ∷ s) (λ p. cc (scans s (accepted-long s p)))
    by l None e = not-accepted (0 ∷ s) (λ p. cc (scans s (accepted-long s p)))

    go : Split (ltb (length (before s)) (length s)) → Is (0 ∷ s) (long_split s)
    go (inl p) = rw p (by (ltb-true _ _ p) (scan_from (Some (Whole 0)) (before s)) refl)
    go (inr p) = rw p (not-accepted (0 ∷ s) (λ q. omega (arith, (accepted-long s q).ended, ltb-false)))

is-split : (form : Bytes) → Is form (split_of form)
unfolding split_of
is-split [] = empty-cut
is-split (n ∷ s) = go (split (eqb n 0)) (split (leb n (length s)))
  where
    go : Split (eqb n 0) → Split (leb n (length s)) → Is (n ∷ s) (split_of (n ∷ s))
    go (inl p) q = rw p (subst (λ (k : ℕ). Is (k ∷ s) (long_split s)) (sym (eqb-true n 0 p)) (is-long s))
    go (inr p) (inl q) = rw (p, q) (record { whole = refl; filled = eqb-false n 0 p; within = leb-true _ _ q })
    go (inr p) (inr q) = rw (p, q) (not-accepted (n ∷ s) (λ h. omega (arith, (accepted-short n s (eqb-false n 0 p) h).within, leb-false)))

split-is : (form : Bytes) (r : Option Form) → split_of form ≡ r → Is form r
split-is form r e = subst (λ (x : Option Form). Is form x) e (is-split form)

-- ---- what that says of the parts

pub split_parts : (form : Bytes) (r : Option Form) → split_of form ≡ r → Splits form r
unfolding text_in tag_in
split_parts form (Some (F.Short n)) e =
    let h = split-is form (Some (F.Short n)) e in
    let p = short-form n (drop 1 form) h.filled in
    let k : n + 1 ≡ 1 + n = omega arith in
    record {
      split = e;
      tag = ap tag_in (sym h.whole) ∙ p.1;
      text = ap text_in (sym h.whole) ∙ p.0 ∙ rw k (drop-drop n 1 form);
      within = omega (arith, h.within, h.filled, length-drop 1 form);
    }
split_parts form (Some (F.Long end n)) e =
    let h = split-is form (Some (F.Long end n)) e in
    let s = drop 1 form in
    let k : end + 2 ≡ 1 + suc end = omega arith in
    record {
      split = e;
      tag = ap (λ (x : Bytes). escaped (tag_in x)) (sym h.whole) ∙ h.tag ∙ rw h.stands (sym (take-before s));
      text = ap text_in (sym h.whole) ∙ (before_split s h.ended).1 ∙ rw (k, ← h.stands) (drop-drop (suc end) 1 form);
      within = omega (arith, h.ended, h.stands, length-drop 1 form);
      tag_length = ap (λ (x : Bytes). length (tag_in x)) (sym h.whole) ∙ sym h.size;
    }
split_parts form None e = split-is form None e

-- The parts as the code cuts them out, and which short forms packing makes.
module _ {form : Bytes} {n : ℕ} (h : ShortForm form n) where
  pub short-text : take (length form - (n + 1)) (drop (n + 1) form) ≡ text_in form
  short-text = to_end form (n + 1) ∙ sym h.text

  pub short-tag : take (n + 1 - 1) (drop 1 form) ≡ tag_in form
  short-tag = behind-first form n ∙ sym h.tag

  pub short-length : n ≡ length (tag_in form)
  short-length = rw h.tag (sym (length-take-le n (drop 1 form) (simp length-drop (omega (arith, h.within)))))

  pub short-stands : split_of form ≡ Some (F.Short (length (take (n + 1 - 1) (drop 1 form))))
  short-stands = h.split ∙ ap (λ (k : ℕ). Some (F.Short k)) (short-length ∙ ap length (sym short-tag))

  short-low : accepted form ≡ true → n ≤ 127
  short-low p =
      let i = split-is form (Some (F.Short n)) h.split in
      (accepted-short n (drop 1 form) i.filled (ap accepted i.whole ∙ p)).low

  short-taken : n ≤ 127 → pair_refusal (text_in form) (tag_in form) ≡ none → accepted form ≡ true
  short-taken l q =
      let i = split-is form (Some (F.Short n)) h.split in
      let p = short-form n (drop 1 form) i.filled in
      ap accepted (sym i.whole)
      ∙ short-accepted n (drop 1 form) i.filled
      (record { low = l; within = i.within; pair = rw (← p.0, ← p.1, i.whole) q })

  pub short-cut : 127 < n → accepted form ≡ false
  short-cut l = not-accepted form (λ p. omega (arith, short-low p))

  pub short-legal : n ≤ 127 → is_legal (pair_refusal (text_in form) (tag_in form)) ≡ accepted form
  short-legal l = same_test _ _ (λ p. short-taken l (none-legal _ p)) (λ p. ap is_legal (unpack-pack form p).0)

-- The same of long ones.
module _ {form : Bytes} {end n : ℕ} (h : LongForm form end n) where
  pub long-text : take (length form - (end + 2)) (drop (end + 2) form) ≡ text_in form
  long-text = to_end form (end + 2) ∙ sym h.text

  pub long-escaped : take (end + 1 - 1) (drop 1 form) ≡ escaped (tag_in form)
  long-escaped = behind-first form end ∙ sym h.tag

  pub long-tag : unescaped false (take (end + 1 - 1) (drop 1 form)) ≡ tag_in form
  long-tag = rw long-escaped (read-escaped (tag_in form))

  pub long-stands : (split_of form ≡ Some (F.Long (length (take (end + 1 - 1) (drop 1 form))) (length (tag_in form))))
      × (take (end + 1 - 1) (drop 1 form) ≡ escaped (tag_in form))
  long-stands =
      let l : length (take (end + 1 - 1) (drop 1 form)) ≡ end =
      ap length (behind-first form end) ∙ length-take-le end (drop 1 form) (simp length-drop (omega (arith, h.within))) in
      (rw (l, h.tag_length) h.split, long-escaped)

  pub long-low : n ≤ end
  long-low = omega (
    arith,
    (length-escaped (tag_in form)).1,
    ap length h.tag,
    length-take-le end (drop 1 form) (simp length-drop (omega (arith, h.within))),
    h.tag_length,
  )

  long-high : accepted form ≡ true → 127 < n
  long-high p =
      let i = split-is form (Some (F.Long end n)) h.split in
      omega (arith, (accepted-long (drop 1 form) (ap accepted i.whole ∙ p)).high, i.size)

  long-taken : 127 < n → pair_refusal (text_in form) (tag_in form) ≡ none → accepted form ≡ true
  unfolding text_in tag_in
  long-taken l q =
      let i = split-is form (Some (F.Long end n)) h.split in
      ap accepted (sym i.whole)
      ∙ long-accepted (drop 1 form)
      (record {
        ended = i.ended;
        form = i.tag;
        high = omega (arith, i.size);
        pair = ap (λ (x : Bytes). pair_refusal (text_in x) (tag_in x)) i.whole ∙ q;
      })

  legal-pair : accepted form ≡ true → LegalTagged (text_in form) (tag_in form)
  legal-pair p = legal-tagged (text_in form) (tag_in form) (unpack-pack form p).0

  -- Its tests, one after the other: a long tag, a pair that is not too long, and two texts.
  pub long-tests : {a b : Bool} → a ≡ (ltb 127 n && leb (length (text_in form) + n) name_limit) → b ≡ (a && is_text (text_in form))
      → (b ≡ true → is_text (tag_in form) ≡ accepted form) × (b ≡ false → b ≡ accepted form)
  long-tests {a} {b} p q = (λ t. same_test _ _ (taken t) (λ e. (legal-pair e).tag_is), λ t. t ∙ sym (not-accepted form (λ e. clash (all e) t)))
    where
      taken : b ≡ true → is_text (tag_in form) ≡ true → accepted form ≡ true
      taken t e =
          let u = sym q ∙ t in
          let v = sym p ∙ and_left a _ u in
          let l = ltb-true _ _ (and_left (ltb 127 n) _ v) in
          long-taken l
          (is-legal (text_in form) (tag_in form)
          (record {
            size = omega (arith, leb-true _ _ (and_right (ltb 127 n) _ v), h.tag_length);
            text-is = and_right a _ u;
            tag_is = e;
            tagged = has-bytes (tag_in form) (omega (arith, h.tag_length));
          }))

      all : accepted form ≡ true → b ≡ true
      all e =
          let g = legal-pair e in
          rw (q, p, lt-ltb 127 n (long-high e), le-leb (length (text_in form) + n) name_limit (omega (arith, g.size, h.tag_length)), g.text-is)

-- ---- the forms that packing makes

module _ (form : Bytes) where
  pub taken-form : accepted form ≡ true → split_of form ≡ form_of form
  unfolding form_of
  taken-form p = rw p

  pub cut-form : (accepted form ≡ true → ⊥) → None ≡ form_of form
  unfolding form_of
  cut-form never = rw (not-accepted form never)

  pub form-made : (parts : Form) → form_of form ≡ Some parts → accepted form ≡ true
  form-made parts e = go (split (accepted form))
    where
      go : Split (accepted form) → accepted form ≡ true
      go (inl p) = p
      go (inr p) = cc (cut-form (λ q. clash q p))

  pub form-cut : form_of form ≡ None → accepted form ≡ false
  form-cut e = not-accepted form (λ p. clash p (split_parts form None (taken-form p ∙ e)))
