-- A name of a kind with heads is its head and its rest. Assumes nothing.
use Prim.Native.Nat.{ℕ, ◌+◌, ◌<◌, ◌≤◌}
use mathlib.Core.Path.{◌≡◌, refl, sym, ap, ◌∙◌}
use mathlib.Core.Logic.{inl, inr}
use mathlib.Core.Bool.{true, cond, false≢true}
use native.Mathlib.Omega.{arith}
use Rattle.std.specs.Prelude.{Option}
use lib.ListN.{length, take, drop, length-drop}
use lib.Seq.{take_all}
use Rattle.slices.specs.Bytes.{Bytes}
use Rattle.slices.proofs.Tests.{Split, split}
use Rattle.ranked_pair_iri_dv_dict.specs.Split.{head_length, head_of, length_of}
use Rattle.ranked_pair_iri_dv_dict.proofs.Laws.{head-length, head-le}
use Rattle.layout.specs.Sizes.{kinds}
use Rattle.model.specs.Names.{Name, entered}
use Rattle.model.specs.Kinds.{Way, splits, whole, packs, pairs, has_heads, head_by, rest_by, row}
use Rattle.kind_table.specs.Rows.{is_split}
use Rattle.names.specs.Given.{IsPair, head_size, rest_behind}

-- The answer h of the split says how long the head is.
split_at : (iri : Bytes) (h : Option ℕ) → h ≡ head_of iri → length_of h ≡ head_length iri
split_at iri h e = ap length_of e ∙ head-length iri

-- Head and rest of a first part that splits, by the answer of the split.
pub iri-head : (k : ℕ) (iri : Bytes) (h : Option ℕ) → is_split (row k).way ≡ true → h ≡ head_of iri → (length_of h ≡ head_size k iri) × (length_of h ≤ length iri)
iri-head k iri h z e =
    let f = split_at iri h e in
    rw z (f, omega (arith, f, head-le iri))

-- What a way with heads makes of the parts.
pair-by : (w : Way) (k : ℕ) (first second : Bytes) (n : ℕ) → has_heads w ≡ true → n ≡ cond (is_split w) (head_length first) (length first)
    → (head_by w (entered k first second) ≡ take n first) × (rest_by w (entered k first second) ≡ cond (is_split w) (drop n first) second)
pair-by splits k first second n p e = rw e (refl, refl)
pair-by whole k first second n p e = absurd (false≢true p)
pair-by packs k first second n p e = absurd (false≢true p)
pair-by pairs k first second n p e = (sym (take_all n first (omega arith)), refl)

pub is-pair : (k : ℕ) (first second rest : Bytes) (n : ℕ) → k < kinds → (row k).paired ≡ true → n ≡ head_size k first → rest ≡ rest_behind n k first second
    → (a : Name) → a ≡ entered k first second → IsPair k (take n first) rest a
is-pair k first second rest n l p e r a m =
    let h = pair-by (row k).way k first second n p e in
    rw (r, m) (record { kinded = refl; headed = h.0; rested = h.1 })

-- The rest lies in one of the parts.
pub rest-short : (k : ℕ) (first second rest : Bytes) (n m : ℕ) → rest ≡ rest_behind n k first second → length first + length second ≤ m → length rest ≤ m
rest-short k first second rest n m e l = go (split (is_split (row k).way))
  where
    go : Split (is_split (row k).way) → length rest ≤ m
    go (inl p) = let q : rest ≡ drop n first = rw p at e in rw (q, length-drop) (omega arith)
    go (inr p) = let q : rest ≡ second = rw p at e in rw q (omega arith)
