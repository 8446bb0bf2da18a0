-- Laws of `upd` (crate slices), a function changed at one number. Assumes nothing.
use Prim.Native.Nat.{ℕ}
use mathlib.Core.Path.{◌≡◌, refl, sym, ap, ◌∙◌}
use mathlib.Core.Logic.{◌≢◌, ◌⊎◌, inl, inr}
use mathlib.Core.Option.{none, some}
use native.Mathlib.Omega.{arith}
use lib.Dec.{eqb}
use borrow.Author.Tests.{eqb-true, eqb-false, eq-eqb, ne_eqb}
use Rattle.slices.specs.Bytes.{Bytes}
use Rattle.slices.proofs.Tests.{Split, split}
use Rattle.bytes_index.specs.Entries.{Entries}
use Rattle.bytes_buffer.specs.Pages.{upd}

pub upd_same : {A : Type 0} (f : ℕ → A) (k : ℕ) (a : A) → upd f k a k ≡ a
upd_same f k a = rw (eq-eqb k k refl)

pub upd_other : {A : Type 0} (f : ℕ → A) (k : ℕ) (a : A) (j : ℕ) → j ≢ k → upd f k a j ≡ f j
upd_other f k a j n = rw (ne_eqb k j (λ e. n (sym e)))

-- What holds of f away from k, and of a at k, holds of the changed f.
pub upd-each : {A : Type 0} (P : ℕ → A → Type 0) (f : ℕ → A) (k : ℕ) (a : A) (j : ℕ) → (j ≢ k → P j (f j)) → (j ≡ k → P j a) → P j (upd f k a j)
upd-each {A} P f k a j other same = go (split (eqb k j))
  where
    go : Split (eqb k j) → P j (upd f k a j)
    go (inl e) = rw e (same (sym (eqb-true k j e)))
    go (inr e) = rw e (other (λ q. eqb-false k j e (sym q)))

-- ---- one entry more

module _ (es : Entries) (n : ℕ) (key : Bytes) where
  -- An entry in use is the new one, or an old one.
  pub more-cases : (i : ℕ) (k : Bytes) → upd es n (some key) i ≡ some k → ((i ≡ n) × (key ≡ k)) ⊎ ((i ≢ n) × (es i ≡ some k))
  more-cases i k =
      upd-each (λ j o. o ≡ some k → ((j ≡ n) × (key ≡ k)) ⊎ ((j ≢ n) × (es j ≡ some k))) es n (some key) i
      (λ q e. inr (q, e))
      (λ q e. inl (q, cc))

  -- An old entry is in use still.
  pub more-old : es n ≡ none → (i : ℕ) (k : Bytes) → es i ≡ some k → upd es n (some key) i ≡ some k
  more-old z i k e = upd_other es n (some key) i apart ∙ e
    where
      apart : i ≢ n
      apart q = let f : es n ≡ some k = ap es (sym q) ∙ e in let c : ◌≡◌ {A = ℕ} 0 1 = cc in absurd (omega arith)
