-- The rules of the table of kinds. Each is one test, computed over all rows, and `each_row` or `any-row` turns it into the rule at a kind. Assumes nothing.
use Prim.Native.Nat.{ℕ, zero, suc, ◌+◌, ◌<◌, ◌≤◌}
use mathlib.Core.Path.{◌≡◌, refl, sym, ap, subst, ◌∙◌}
use mathlib.Core.Logic.{inl, inr}
use mathlib.Core.Bool.{Bool, true, false, ◌&&◌, ◌||◌, not, cond}
use mathlib.Core.List.{List, [], ◌∷◌}
use native.Mathlib.Nat.{add-zero, add-suc, suc-add, zero-add}
use native.Mathlib.Omega.{arith}
use borrow.Author.Tests.{ltb-true, ltb-false, eqb-true, eq-eqb, not-true}
use lib.Dec.{ltb, eqb}
use lib.ListN.{length, get_or, get_or-eq_default}
use Rattle.slices.proofs.Tests.{Split, split, and_left, and_right, clash}
use Rattle.layout.specs.Sizes.{kinds, dictionaries}
use Rattle.model.specs.Kinds.{Way, splits, whole, packs, pairs, Row, plain, rows, row_at, has_heads, row}

-- ---- a test of all rows, and the rule at each

-- The test passes at each row and its kind, counted from k.
abbrev pub every : (ℕ → Row → Bool) → ℕ → List Row → Bool
every f k [] = true
every f k (r ∷ rs) = f k r && every f (suc k) rs

from : (f : ℕ → Row → Bool) (rs : List Row) (i : ℕ) → every f i rs ≡ true → (k : ℕ) → k < length rs → f (i + k) (get_or rs k plain) ≡ true
from f [] i t k h = absurd (omega arith)
from f (r ∷ rs) i t zero h = subst (λ (m : ℕ). f m r ≡ true) (sym (add-zero i)) (and_left (f i r) _ t)
from f (r ∷ rs) i t (suc k) h =
    subst (λ (m : ℕ). f m (get_or rs k plain) ≡ true) (suc-add i k ∙ sym (add-suc i k)) (from f rs (suc i) (and_right (f i r) _ t) k (omega arith))

pub each_row : (f : ℕ → Row → Bool) → every f 0 rows ≡ true → (k : ℕ) → k < kinds → f k (row_at k) ≡ true
each_row f t k l = subst (λ (m : ℕ). f m (row_at k) ≡ true) (zero-add k) (from f rows 0 t k l)

-- Of a kind that does not exist.
pub no_row : (k : ℕ) → kinds ≤ k → row_at k ≡ plain
no_row k h = get_or-eq_default rows plain h

-- A test that does not ask for the kind, and that `plain` passes, passes at every number.
pub any-row : (f : Row → Bool) → every (λ k. f) 0 rows ≡ true → f plain ≡ true → (k : ℕ) → f (row_at k) ≡ true
any-row f t p k = go (split (ltb k kinds))
  where
    go : Split (ltb k kinds) → f (row_at k) ≡ true
    go (inl q) = each_row (λ j. f) t k (ltb-true k kinds q)
    go (inr q) = rw (no_row k (ltb-false k kinds q)) p

-- a implies b.
abbrev pub only : Bool → Bool → Bool
only a b = not a || b

pub by_only : (a b : Bool) → only a b ≡ true → a ≡ true → b ≡ true
by_only a b t p = rw p at t

-- ---- dictionaries

pub main-below : (k : ℕ) → (row k).main_at < dictionaries
main-below k = ltb-true _ _ (any-row (λ r. ltb r.main_at dictionaries) refl refl k)

pub head-below : (k : ℕ) → (row k).heads_at < dictionaries
head-below k = ltb-true _ _ (any-row (λ r. ltb r.heads_at dictionaries) refl refl k)

-- A kind with heads has them in a dictionary of their own.
pub head_apart : (k : ℕ) → (row k).paired ≡ true → (row k).heads_at ≡ (row k).main_at → ⊥
head_apart k p e =
    let t = by_only (has_heads (row_at k).way) _ (any-row (λ r. only (has_heads r.way) (not (eqb r.heads_at r.main_at))) refl refl k) p in
    clash (eq-eqb _ _ e) (not-true _ t)

-- The first kind that has the dictionary, counted from k.
abbrev first_with : ℕ → ℕ → List Row → ℕ
first_with d k [] = k
first_with d k (r ∷ rs) = cond (eqb r.main_at d || eqb r.heads_at d) k (first_with d (suc k) rs)

abbrev pub owner_kind : ℕ → ℕ
owner_kind d = first_with d 0 rows

-- It is the only one: no two kinds share a dictionary.
pub main-kind : (k : ℕ) → k < kinds → owner_kind (row k).main_at ≡ k
main-kind k l = eqb-true _ _ (each_row (λ j r. eqb (owner_kind r.main_at) j) refl k l)

pub heads-kind : (k : ℕ) → k < kinds → owner_kind (row k).heads_at ≡ k
heads-kind k l = eqb-true _ _ (each_row (λ j r. eqb (owner_kind r.heads_at) j) refl k l)

-- ---- ways

-- A kind that does not exist has no heads.
pub no-pair : (k : ℕ) → kinds ≤ k → (row k).paired ≡ false
no-pair k h = ap (λ (r : Row). has_heads r.way) (no_row k h)

-- The ways that store nothing of the second part.
abbrev pub first_only : Way → Bool
first_only splits = true
first_only whole = true
first_only packs = false
first_only pairs = false

-- A kind that is stored so has no second part.
pub no_second-row : (k : ℕ) → first_only (row k).way ≡ true → (row k).no_second ≡ true
no_second-row k = by_only _ _ (any-row (λ r. only (first_only r.way) r.no_second) refl refl k)

abbrev pub packs_tag : Way → Bool
packs_tag splits = false
packs_tag whole = false
packs_tag packs = true
packs_tag pairs = false

-- A tag that is packed is not empty.
pub needs-tag : (k : ℕ) → packs_tag (row k).way ≡ true → (row k).needs_tag ≡ true
needs-tag k = by_only _ _ (any-row (λ r. only (packs_tag r.way) r.needs_tag) refl refl k)
