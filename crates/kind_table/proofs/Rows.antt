-- The row of a number, and a way that splits. Assumes nothing.
use Prim.Native.Nat.{ℕ, zero, suc}
use mathlib.Core.Path.{◌≡◌, refl}
use mathlib.Core.Bool.{true, false≢true}
use native.Mathlib.Omega.{arith}
use borrow.Author.Tests.{ne_eqb}
use Rattle.std.specs.Result.{result_unwrap_or}
use Rattle.layout.specs.Numbers.{kind_number, kind_by}
use Rattle.layout.specs.declared.Kind.TheVariants.{Plain}
use Rattle.model.specs.Kinds.{Way, splits, whole, packs, pairs, row}
use Rattle.model.proofs.Table.{first_only}
use Rattle.kind_table.specs.Rows.{is_split}

-- A number has the row of its kind. One that is no kind's has that of the plain strings.
pub row-or_plain : (n : ℕ) → row (kind_number (result_unwrap_or (kind_by n) Plain)) ≡ row n
row-or_plain zero = refl
row-or_plain (suc zero) = refl
row-or_plain (suc (suc zero)) = refl
row-or_plain (suc (suc (suc zero))) = refl
row-or_plain (suc (suc (suc (suc n)))) =
    let m : ℕ = suc (suc (suc (suc n))) in
    rw (ne_eqb m 0 (λ p. omega arith), ne_eqb m 1 (λ p. omega arith), ne_eqb m 2 (λ p. omega arith), ne_eqb m 3 (λ p. omega arith)) refl

-- A way that splits stores nothing of a second part.
pub split-first : (w : Way) → is_split w ≡ true → first_only w ≡ true
split-first splits p = refl
split-first whole p = absurd (false≢true p)
split-first packs p = absurd (false≢true p)
split-first pairs p = absurd (false≢true p)
