-- By where the first '>' stands, and the scan of what stands before it. Assumes nothing.
use Rattle.std.proofs.Common.{◌≡◌, ℕ, ◌<◌, Some, None, ltb, length, take, refl, sym, ap, ◌∙◌, arith}
use borrow.Author.Tests.{ltb-true}
use mathlib.Core.Logic.{inl, inr}
use Rattle.slices.specs.Bytes.{Bytes}
use Rattle.slices.proofs.Tests.{Split, split}
use Rattle.string_dv_dict_split.specs.declared.Scan.{Scan}
use Rattle.string_dv_dict_split.specs.declared.Scan.TheVariants.{Whole, Escape}
use Rattle.string_dv_dict_split.specs.Forms.{before}
use Rattle.string_dv_dict_split.specs.Scans.{end_in, scan_from, long_by, long_split}
use Rattle.string_dv_dict_split.proofs.Escapes.{take-before}
use Rattle.string_dv_dict_split.proofs.split_long.Goals as goal

module _ (s : Bytes) where
  unended : None ≡ end_in s → None ≡ long_split s
  unfolding long_split
  unended e = go (split (ltb (length (before s)) (length s)))
    where
      go : Split (ltb (length (before s)) (length s)) → None ≡ long_split s
      go (inl p) = let h : None ≡ Some (length (before s)) = rw p at e in cc
      go (inr p) = rw p

  -- The first '>' stands in the form, and what stands before it is scanned.
  record Ended (end : ℕ) : Type 0 where
    inside : end < length s
    scanned : long_by end (scan_from (Some (Whole 0)) (take end s)) ≡ long_split s

  ended : (end : ℕ) → Some end ≡ end_in s → Ended end
  unfolding long_split
  ended end e = go (split (ltb (length (before s)) (length s)))
    where
      go : Split (ltb (length (before s)) (length s)) → Ended end
      go (inl p) =
          let h : Some end ≡ Some (length (before s)) = rw p at e in
          let k : end ≡ length (before s) = cc in
          record { inside = omega (arith, ltb-true _ _ p); scanned = rw (k, take-before s, p) }
      go (inr p) = let h : Some end ≡ None = rw p at e in cc

-- The scan's other answer.
other : (end : ℕ) (r : Scan) → ((n : ℕ) → r ≡ Whole n → ⊥) → None ≡ long_by end (Some r)
other end (Whole n) never = absurd (never n refl)
other end (Escape n) never = refl

pub returns-in_err-end : goal.returns-in_err-end
returns-in_err-end c = c.from_residual.ensures ∙ unended _ c.in_err-end.ensures

pub returns-in_err-tag : goal.returns-in_err-tag
returns-in_err-tag c =
    c.from_residual-in_err-tag.ensures
    ∙ ap (long_by c.in_ok-end.end) c.in_err-tag.ensures
    ∙ (ended _ _ c.in_ok-end.ensures).scanned

pub returns-in_default : goal.returns-in_default
returns-in_default c =
    let end = c.in_ok-end.end in
    other end c.in_ok-tag.field-0 c.in_default.not-Whole
    ∙ ap (long_by end) c.in_ok-tag.ensures
    ∙ (ended _ _ c.in_ok-end.ensures).scanned

pub returns : goal.returns
returns c =
    let end = c.in_ok-end.end in
    ap (λ (r : Scan). long_by end (Some r)) (sym c.in-Whole.is)
    ∙ ap (long_by end) c.in_ok-tag.ensures
    ∙ (ended _ _ c.in_ok-end.ensures).scanned
