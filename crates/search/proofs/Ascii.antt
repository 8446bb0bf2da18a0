-- Bytes that have no top bit are text. Assumes nothing.
use Prim.Native.Nat.{ℕ, ◌≤◌, ◌<◌}
use mathlib.Core.Path.{◌≡◌, refl, sym, ap, subst, ◌∙◌}
use mathlib.Core.Logic.{inl, inr}
use mathlib.Core.Bool.{true}
use mathlib.Core.List.{[], ◌∷◌}
use native.Mathlib.Omega.{arith}
use borrow.Author.Tests.{le-leb}
use lib.ListN.{length, take, drop, take-append-drop}
use lib.Seq.{take_all}
use Rattle.slices.specs.Bytes.{Bytes}
use Rattle.slices.proofs.Tests.{Split, split}
use Rattle.fnv.specs.Fnv.{bits_from}
use Rattle.fnv.proofs.Laws.{bits-append, bits-least, bits-first}
use Rattle.utf8.specs.Text.{char_start, first_of, after, text_from, is_text}
use Rattle.model.specs.Kinds.{row}
use Rattle.model.proofs.Table.{first_only}
use Rattle.kind_table.specs.Rows.{is_split}
use Rattle.kind_table.proofs.Rows.{split-first}
use Rattle.names.specs.Given.{head_size, rest_behind}

-- A byte below 0x80 is a character by itself.
one : (x : ℕ) → x < 128 → after char_start x ≡ char_start
unfolding first_of
one x h = rw (le-leb 0 x (omega arith), le-leb x 127 (omega arith))

pub ascii-text : (s : Bytes) (b : ℕ) → bits_from b s < 128 → is_text s ≡ true
unfolding is_text bits_from
ascii-text [] b h = refl
ascii-text (x ∷ s) b h = ap (λ y. text_from y s) (one x (omega (arith, bits-first x s b))) ∙ ascii-text s _ h

-- The bits of the bytes before are among those of all.
before : (s : Bytes) (b : ℕ) → bits_from b s < 128 → b < 128
before s b h = omega (arith, bits-least s b)

pub no_bytes : is_text [] ≡ true
unfolding is_text
no_bytes = refl

-- A head and what is behind it make the name.
pub pair-ascii : (k : ℕ) (first second rest : Bytes) (n : ℕ) → n ≡ head_size k first → n ≤ length first → rest ≡ rest_behind n k first second → (first_only (row k).way ≡ true → second ≡ [])
    → bits_from (bits_from 0 (take n first)) rest < 128
    → (is_text first ≡ true) × (is_text second ≡ true)
pair-ascii k first second rest n e l r o h = go (split (is_split (row k).way))
  where
    go : Split (is_split (row k).way) → (is_text first ≡ true) × (is_text second ≡ true)
    go (inl p) =
        let q : rest ≡ drop n first = rw p at r in
        let w : bits_from 0 first < 128 = subst (λ (x : Bytes). bits_from 0 x < 128) (take-append-drop n first) (subst (λ (x : ℕ). x < 128) (sym (bits-append (take n first) (drop n first) 0)) (rw q at h)) in
        (ascii-text first 0 w, rw (o (split-first (row k).way p)) no_bytes)
    go (inr p) =
        let f : n ≡ length first = rw p at e in
        let q : rest ≡ second = rw p at r in
        let t : take n first ≡ first = take_all n first (omega arith) in
        let w : bits_from (bits_from 0 first) second < 128 = rw (t, q) at h in
        (ascii-text first 0 (before second _ w), ascii-text second _ w)
