-- What the words of the pages say: after opening, in memory that agrees, and who owns a page. Assumes nothing.
use Prim.Native.Nat.{ℕ, zero, suc, ◌+◌, ◌-◌, ◌≤◌, ◌<◌}
use mathlib.Core.Path.{◌≡◌, refl, sym, ◌∙◌, ap, subst}
use mathlib.Core.Logic.{◌≢◌}
use native.Mathlib.Omega.{arith}
use native.Mathlib.Decide.{dec_lt}
use Rattle.layout.specs.declared.Sizes.{Sizes}
use Rattle.layout.specs.Sizes.{dictionaries, page_size}
use Rattle.layout.specs.Fields.{untaken_at, current_at, taken_at, page_at, owner_of, used_of, position_of}
use Rattle.bytes_buffer.specs.Pages.{Space, no_space, all_pages}
use Rattle.bytes_buffer.specs.Spots.{current_of}
use Rattle.bytes_buffer.specs.Tables.{Owned, CurrentPage, PagesAt}
use Rattle.bytes_buffer.proofs.Pages.{none-taken}

-- Where the words up to the last page's are 0 no dictionary has a page.
pub opened-pages : (s : Sizes) (W : ℕ → ℕ) → ((j : ℕ) → untaken_at ≤ j → j < 64 + s.n → W j ≡ zero) → PagesAt s no_space W
opened-pages s W z = record {
  lowest = z untaken_at (omega arith) (omega arith) ∙ sym none-taken;
  room = omega (arith, none-taken);
  owned = λ i l. absurd (omega (arith, none-taken));
  free = λ i k l. z (page_at i) (omega arith) (omega arith);
  count = λ d l. z (taken_at d) (omega arith) (omega arith);
  without = λ d l e. (z (current_at d) (omega arith) (omega arith), refl);
  current = λ d l t. absurd (omega arith);
  order = λ d i l k. absurd (omega (arith, none-taken));
  distinct = λ d i j l k. absurd (omega (arith, none-taken));
}

-- ---- the frame

-- Words that agree wherever the pages' tables lie.
pub record SameTables (s : Sizes) (W W' : ℕ → ℕ) : Type 0 where
  pub lowest : W' untaken_at ≡ W untaken_at
  pub current : (d : ℕ) → d < dictionaries → W' (current_at d) ≡ W (current_at d)
  pub count : (d : ℕ) → d < dictionaries → W' (taken_at d) ≡ W (taken_at d)
  pub pages : (i : ℕ) → i < s.n → W' (page_at i) ≡ W (page_at i)

module _ (s : Sizes) (sp : ℕ → Space) (W W' : ℕ → ℕ) (H : PagesAt s sp W) (A : SameTables s W W') where
  same-current : (d : ℕ) → d < dictionaries → 0 < (sp d).taken → CurrentPage sp W' d
  same-current d l t =
      let P = H.current d l t in
      let e : W' (current_at d) ≡ W (current_at d) = A.current d l in
      let f : W' (page_at (current_of W' d)) ≡ W (page_at (current_of W d)) =
      ap (λ (x : ℕ). W' (page_at (x - 1))) e ∙ A.pages (current_of W d) (omega (arith, P.some, P.below, H.room)) in
      record {
        some = omega (arith, P.some);
        below = omega (arith, P.below);
        owner = ap owner_of f ∙ P.owner;
        used = ap used_of f ∙ P.used;
        position = ap (λ (x : ℕ). suc (position_of x)) f ∙ P.position;
      }

  pub framed : PagesAt s sp W'
  framed = record {
    lowest = A.lowest ∙ H.lowest;
    room = H.room;
    owned = λ i l. subst (Owned s) (sym (A.pages i (omega (arith, H.room)))) (H.owned i l);
    free = λ i k l. A.pages i l ∙ H.free i k l;
    count = λ d l. A.count d l ∙ H.count d l;
    without = λ d l e. (A.current d l ∙ (H.without d l e).0, (H.without d l e).1);
    current = same-current;
    order = λ d i l k o.
        let e : W' (page_at i) ≡ W (page_at i) = A.pages i (omega (arith, H.room)) in
        omega (arith, H.order d i l k (ap owner_of (sym e) ∙ o));
    distinct = λ d i j l k m o q p.
        let e : W' (page_at i) ≡ W (page_at i) = A.pages i (omega (arith, H.room)) in
        let f : W' (page_at j) ≡ W (page_at j) = A.pages j (omega (arith, H.room)) in
        H.distinct d i j l k m (ap owner_of (sym e) ∙ o) (ap owner_of (sym f) ∙ q) (ap position_of (sym e) ∙ p ∙ ap position_of f);
  }

-- ---- whose a page is

-- The current page is one of the taken, and of no other dictionary.
pub current-below : (s : Sizes) (sp : ℕ → Space) (W : ℕ → ℕ) (d : ℕ) → PagesAt s sp W → d < dictionaries → 0 < (sp d).taken → current_of W d < all_pages sp
current-below s sp W d H l t = omega (arith, (H.current d l t).some, (H.current d l t).below)

pub apart : (s : Sizes) (sp : ℕ → Space) (W : ℕ → ℕ) (d e i : ℕ) → PagesAt s sp W → d < dictionaries → 0 < (sp d).taken → owner_of (W (page_at i)) ≡ suc e → e ≢ d
    → i ≢ current_of W d
apart s sp W d e i H l t o q p =
    let a : owner_of (W (page_at (current_of W d))) ≡ suc d = (H.current d l t).owner in
    let b : owner_of (W (page_at i)) ≡ owner_of (W (page_at (current_of W d))) = ap (λ (x : ℕ). owner_of (W (page_at x))) p in
    q (omega arith)

-- Of a dictionary's pages only the current one has the last position.
pub last : (s : Sizes) (sp : ℕ → Space) (W : ℕ → ℕ) → PagesAt s sp W → (d i : ℕ) → d < dictionaries → i < all_pages sp → owner_of (W (page_at i)) ≡ suc d
    → suc (position_of (W (page_at i))) ≡ (sp d).taken
    → W (current_at d) ≡ suc i
last s sp W H d i l k o q =
    let t : 0 < (sp d).taken = omega arith in
    let P = H.current d l t in
    let e : i ≡ current_of W d = H.distinct d i (current_of W d) l k (current-below s sp W d H l t) o P.owner (omega (arith, P.position)) in
    omega (arith, P.some)

-- A page that is still to be taken is nobody's.
pub fresh : (s : Sizes) (sp : ℕ → Space) (W : ℕ → ℕ) → PagesAt s sp W → all_pages sp < s.n → (W (page_at (all_pages sp)) ≡ zero) × (owner_of (W (page_at (all_pages sp))) ≡ zero)
fresh s sp W H l = let e : W (page_at (all_pages sp)) ≡ zero = H.free (all_pages sp) (omega arith) l in (e, omega arith)

-- An owned page is one of the taken.
pub owned_below : (s : Sizes) (sp : ℕ → Space) (W : ℕ → ℕ) (e i : ℕ) → PagesAt s sp W → i < s.n → owner_of (W (page_at i)) ≡ suc e → i < all_pages sp
owned_below s sp W e i H l o = go (dec_lt i (all_pages sp))
  where
    go : Dec (i < all_pages sp) → i < all_pages sp
    go (yes p) = p
    go (no q) = let z : W (page_at i) ≡ zero = H.free i (omega arith) l in absurd (omega arith)

-- The used part of the current page is no longer than the page.
pub used-inside : (s : Sizes) (sp : ℕ → Space) (W : ℕ → ℕ) (d : ℕ) → PagesAt s sp W → d < dictionaries → 0 < (sp d).taken → (sp d).used ≤ page_size s
used-inside s sp W d H l t = omega (arith, (H.current d l t).used, (H.owned (current_of W d) (current-below s sp W d H l t)).inside)

-- The words hold one space for each dictionary.
pub one-space : (s : Sizes) (sp sp' : ℕ → Space) (W : ℕ → ℕ) (d : ℕ) → PagesAt s sp W → PagesAt s sp' W → d < dictionaries → sp d ≡ sp' d
one-space s sp sp' W d H H' l =
    let t : (sp d).taken ≡ (sp' d).taken = sym (H.count d l) ∙ H'.count d l in
    let u : (sp d).used ≡ (sp' d).used = go t (dec_lt 0 (sp d).taken) in
    λ i. record { taken = t i; used = u i }
  where
    go : (sp d).taken ≡ (sp' d).taken → Dec (0 < (sp d).taken) → (sp d).used ≡ (sp' d).used
    go t (yes p) = sym (H.current d l p).used ∙ (H'.current d l (omega arith)).used
    go t (no q) = (H.without d l (omega arith)).1 ∙ sym (H'.without d l (omega arith)).1
