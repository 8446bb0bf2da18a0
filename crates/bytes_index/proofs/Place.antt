-- Where a search goes: m steps visit every place. Assumes nothing.
use mathlib.Core.Path.{◌≡◌, ◌∙◌, sym, ap}
use Prim.Native.Nat.{ℕ, ◌+◌, ◌-◌, ◌%◌, ◌≤◌, ◌<◌}
use native.Mathlib.Omega.{arith}
use native.Mathlib.Nat.{mod-lt, mod-eq_of_lt, mod-add-mod, add-mod_right, add-zero}
use native.Mathlib.Decide.{dec_le}
use Rattle.bytes_index.specs.Place.{place_after}

pub place-lt : (m h k : ℕ) → 0 < m → place_after m h k < m
unfolding place_after
place-lt m h k p = mod-lt (h + k) p

pub place-zero : (m h : ℕ) → place_after m h 0 ≡ h % m
unfolding place_after
place-zero m h = rw add-zero

pub place-next : (m h k : ℕ) → place_after m h (k + 1) ≡ (place_after m h k + 1) % m
unfolding place_after
place-next m h k =
    let e : h + (k + 1) ≡ h + k + 1 = omega arith in
    rw e (sym (mod-add-mod (h + k) m 1))

-- Each place is visited within m steps.
pub record Visit (m h j : ℕ) : Type 0 where
  pub step : ℕ
  pub near : step < m
  pub here : place_after m h step ≡ j

pub place-onto : (m h j : ℕ) → j < m → Visit m h j
unfolding place_after
place-onto m h j l = go (dec_le (h % m) j)
  where
    r : h % m < m
    r = mod-lt h (omega arith)

    go : Dec (h % m ≤ j) → Visit m h j
    go (yes p) =
        let e : h % m + (j - h % m) ≡ j = omega arith in
        record { step = j - h % m; near = omega (arith, r); here = sym (mod-add-mod h m (j - h % m)) ∙ ap (λ (x : ℕ). x % m) e ∙ mod-eq_of_lt l }
    go (no p) =
        let e : h % m + (j + m - h % m) ≡ j + m = omega (arith, r) in
        record {
          step = j + m - h % m;
          near = omega (arith, r);
          here = sym (mod-add-mod h m (j + m - h % m)) ∙ ap (λ (x : ℕ). x % m) e ∙ add-mod_right j m ∙ mod-eq_of_lt l;
        }
