-- What the count's word says. Assumes nothing.
use Prim.Native.Nat.{ℕ, ◌≤◌, ◌<◌}
use mathlib.Core.Path.{◌≡◌}
use mathlib.Core.Logic.{inl, inr}
use native.Mathlib.Omega.{arith}
use lib.Dec.{leb}
use borrow.Author.Tests.{leb-true, leb-false, le-leb}
use Rattle.std.specs.Prelude.{Result, Ok, Err}
use Rattle.slices.proofs.Tests.{Split, split}
use Rattle.layout.specs.declared.Sizes.{Sizes}
use Rattle.refusals.specs.declared.Refusal.{Refusal}
use Rattle.refusals.specs.declared.Refusal.TheVariants.{Unopened}
use Rattle.bytes_dictionary.specs.Reading.{count_in}

pub count-is : (s : Sizes) (w n : ℕ) → n ≡ w → n ≤ s.e → Ok n ≡ count_in s w
unfolding count_in
count-is s w n q l = rw (← q, le-leb n s.e l)

pub counted-by : (s : Sizes) (w n : ℕ) → count_in s w ≡ Ok n → (n ≡ w) × (w ≤ s.e)
unfolding count_in
counted-by s w n q = go (split (leb w s.e))
  where
    go : Split (leb w s.e) → (n ≡ w) × (w ≤ s.e)
    go (inl p) = let f : ◌≡◌ {A = Result ℕ Refusal} (Ok w) (Ok n) = rw p at q in (cc, leb-true w s.e p)
    go (inr p) = let f : ◌≡◌ {A = Result ℕ Refusal} (Err Unopened) (Ok n) = rw p at q in let z : ◌≡◌ {A = ℕ} 0 1 = cc in absurd (omega arith)

pub uncounted : (s : Sizes) (w : ℕ) (why : Refusal) → count_in s w ≡ Err why → (why ≡ Unopened) × (s.e < w)
unfolding count_in
uncounted s w why q = go (split (leb w s.e))
  where
    go : Split (leb w s.e) → (why ≡ Unopened) × (s.e < w)
    go (inl p) = let f : ◌≡◌ {A = Result ℕ Refusal} (Ok w) (Err why) = rw p at q in let z : ◌≡◌ {A = ℕ} 0 1 = cc in absurd (omega arith)
    go (inr p) = let f : ◌≡◌ {A = Result ℕ Refusal} (Err Unopened) (Err why) = rw p at q in (cc, leb-false w s.e p)
