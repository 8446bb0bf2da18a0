-- The plan answers what the spaces say. Assumes nothing.
use Prim.Native.Nat.{ℕ, zero, suc, ◌≤◌, ◌<◌}
use mathlib.Core.Path.{◌≡◌, refl, sym, ◌∙◌, ap, subst}
use mathlib.Core.Logic.{inl, inr}
use mathlib.Core.Bool.{true, false, cond}
use native.Mathlib.Omega.{arith}
use native.Mathlib.Decide.{dec_lt}
use borrow.Author.Tests.{ltb-true, ltb-false}
use lib.Dec.{ltb}
use Rattle.std.specs.Prelude.{Result, Ok, Err}
use Rattle.slices.proofs.Tests.{Split, split}
use Rattle.layout.specs.declared.Sizes.{Sizes}
use Rattle.layout.specs.Sizes.{dictionaries, page_size}
use Rattle.layout.specs.Fields.{untaken_at, current_at, page_at}
use Rattle.refusals.specs.declared.Refusal.{Refusal}
use Rattle.refusals.specs.declared.Refusal.TheVariants.{NoPage}
use Rattle.bytes_buffer.specs.declared.Spot.{Spot}
use Rattle.bytes_buffer.specs.declared.Spot.TheVariants.{Current, Next}
use Rattle.bytes_buffer.specs.Pages.{Space, fits, grown_at, all_pages}
use Rattle.bytes_buffer.specs.Spots.{lowest_of, next_of, spot_of, current_of, spot_in}
use Rattle.bytes_buffer.specs.Tables.{PagesAt}
use Rattle.bytes_buffer.proofs.Pages.{size_is, fits-facts, over-unfit, pageless-unfit, empty-stays, pages-fit, pages-unfit}
use Rattle.bytes_buffer.proofs.Spots.{lowest-is, next-is, next-none, spot-first, spot-current, spot-next}
use Rattle.bytes_buffer.proofs.Tables.{used-inside}

-- The lowest untaken page is known.
pub untaken-known : (s : Sizes) (sp : ℕ → Space) (W : ℕ → ℕ) → PagesAt s sp W → lowest_of s (W untaken_at) ≡ Ok (all_pages sp)
untaken-known s sp W H = ap (lowest_of s) H.lowest ∙ lowest-is s (all_pages sp) H.room

-- What each of the plan's answers says of the spaces.
abbrev pub SpotSays : Sizes → (ℕ → Space) → (ℕ → ℕ) → ℕ → ℕ → ℕ → Result Spot Refusal → Type 0
SpotSays s sp W d u n (Ok (Current g o)) = (fits s.p (sp d) n ≡ true) × (g ≡ current_of W d) × (o ≡ (sp d).used)
SpotSays s sp W d u n (Ok (Next g)) = (fits s.p (sp d) n ≡ false) × (g ≡ u) × (u < s.n)
SpotSays s sp W d u n (Err why) = (why ≡ NoPage) × (fits s.p (sp d) n ≡ false) × (s.n ≤ u)

module _ (s : Sizes) (sp : ℕ → Space) (W : ℕ → ℕ) (d u n : ℕ) (H : PagesAt s sp W) (l : d < dictionaries) where
  -- It fits: behind what the current page has.
  pub plan-fit : fits s.p (sp d) n ≡ true → spot_in s W d u n ≡ Ok (Current (current_of W d) (sp d).used)
  unfolding spot_in
  plan-fit e =
      let f = fits-facts s.p (sp d) n e in
      let P = H.current d l f.0 in
      spot-current s (W (current_at d)) (W (page_at (current_of W d))) u n (omega (arith, P.some)) (omega (arith, P.below, H.room)) (omega (arith, P.used, f.1, size_is s))
      ∙ ap (λ (o : ℕ). Ok (Current (current_of W d) o)) P.used

  -- It does not: one more page, if one is left.
  pub plan-unfit : fits s.p (sp d) n ≡ false → spot_in s W d u n ≡ next_of s u
  unfolding spot_in
  plan-unfit e = go (dec_lt 0 (sp d).taken)
    where
      go : Dec (0 < (sp d).taken) → spot_of s (W (current_at d)) (W (page_at (current_of W d))) u n ≡ next_of s u
      go (yes t) =
          let P = H.current d l t in
          spot-next s (W (current_at d)) (W (page_at (current_of W d))) u n (omega (arith, P.some)) (omega (arith, P.below, H.room))
          (omega (arith, P.used, used-inside s sp W d H l t))
          (omega (arith, P.used, over-unfit s.p (sp d) n e t, size_is s))
      go (no q) = spot-first s (W (current_at d)) (W (page_at (current_of W d))) u n (H.without d l (omega arith)).0

  -- Both: the plan's answer, as an equation.
  pub planned : spot_in s W d u n ≡ cond (fits s.p (sp d) n) (Ok (Current (current_of W d) (sp d).used)) (next_of s u)
  planned = go (split (fits s.p (sp d) n))
    where
      go : Split (fits s.p (sp d) n) → spot_in s W d u n ≡ cond (fits s.p (sp d) n) (Ok (Current (current_of W d) (sp d).used)) (next_of s u)
      go (inl e) = rw e (plan-fit e)
      go (inr e) = rw e (plan-unfit e)

  pub plan-says : (r : Result Spot Refusal) → spot_in s W d u n ≡ r → SpotSays s sp W d u n r
  plan-says r q = subst (SpotSays s sp W d u n) q (go (split (fits s.p (sp d) n)) (split (ltb u s.n)))
    where
      go : Split (fits s.p (sp d) n) → Split (ltb u s.n) → SpotSays s sp W d u n (spot_in s W d u n)
      go (inl e) b = subst (SpotSays s sp W d u n) (sym (plan-fit e)) (e, refl, refl)
      go (inr e) (inl b) =
          let h : u < s.n = ltb-true u s.n b in
          subst (SpotSays s sp W d u n) (sym (plan-unfit e ∙ next-is s u h)) (e, refl, h)
      go (inr e) (inr b) =
          let h : s.n ≤ u = ltb-false u s.n b in
          subst (SpotSays s sp W d u n) (sym (plan-unfit e ∙ next-none s u h)) (refl, e, h)

  -- An empty entry after an exactly full page stays in that page, at its end.
  pub empty-at-end : n ≡ 0 → 0 < (sp d).taken → (sp d).used ≡ page_size s → spot_in s W d u n ≡ Ok (Current (current_of W d) (page_size s))
  empty-at-end z t f =
      plan-fit (ap (fits s.p (sp d)) z ∙ empty-stays s.p (sp d) t (f ∙ size_is s)) ∙ ap (λ (o : ℕ). Ok (Current (current_of W d) o)) f

  -- A dictionary without a page gets the lowest untaken one, whatever the length.
  pub first-page : (sp d).taken ≡ zero → u < s.n → spot_in s W d u n ≡ Ok (Next u)
  first-page z h = plan-unfit (pageless-unfit s.p (sp d) n z) ∙ next-is s u h

-- The same of spaces sp' that have d's space as it was, and `u` pages: of sp itself, or after the first of two entries.
module _ (s : Sizes) (sp sp' : ℕ → Space) (W : ℕ → ℕ) (d u n : ℕ) (H : PagesAt s sp W) (l : d < dictionaries) (q : sp' d ≡ sp d) (a : all_pages sp' ≡ u) where
  pub current-pages : (g o : ℕ) → spot_in s W d u n ≡ Ok (Current g o) → all_pages (grown_at s sp' d n) ≡ u
  current-pages g o e = pages-fit s sp' d n l (ap (λ (x : Space). fits s.p x n) q ∙ (plan-says s sp W d u n H l (Ok (Current g o)) e).0) ∙ a

  pub next-pages : (g : ℕ) → spot_in s W d u n ≡ Ok (Next g) → all_pages (grown_at s sp' d n) ≡ suc u
  next-pages g e = pages-unfit s sp' d n l (ap (λ (x : Space). fits s.p x n) q ∙ (plan-says s sp W d u n H l (Ok (Next g)) e).0) ∙ ap suc a

  -- No page exactly if the grown spaces have more pages than there are.
  pub none_over : spot_in s W d u n ≡ Err NoPage → s.n < all_pages (grown_at s sp' d n)
  none_over e =
      let p = plan-says s sp W d u n H l (Err NoPage) e in
      omega (arith, p.2, pages-unfit s sp' d n l (ap (λ (x : Space). fits s.p x n) q ∙ p.1))

-- A dictionary whose space and current page stay keeps its spot: an add plans both its entries before it writes the first.
pub spot-kept : (s : Sizes) (sp sp' : ℕ → Space) (W W' : ℕ → ℕ) (d u n : ℕ) → PagesAt s sp W → PagesAt s sp' W' → d < dictionaries → sp' d ≡ sp d
    → W' (current_at d) ≡ W (current_at d) → spot_in s W' d u n ≡ spot_in s W d u n
spot-kept s sp sp' W W' d u n H H' l e f =
    let p = planned s sp W d u n H l in
    let q = planned s sp' W' d u n H' l in
    cc
