-- An entry's words keep the tables: the words after it hold the grown spaces. Assumes nothing.
use Prim.Native.Nat.{ℕ, zero, suc, ◌+◌, ◌-◌, ◌≤◌, ◌<◌}
use mathlib.Core.Path.{◌≡◌, sym, ◌∙◌, ap, subst}
use mathlib.Core.Logic.{◌≢◌}
use mathlib.Core.Bool.{true, false}
use native.Mathlib.Omega.{arith}
use native.Mathlib.Decide.{ℕ_discrete}
use Rattle.layout.specs.declared.Sizes.{Sizes}
use Rattle.layout.specs.Sizes.{InRange, dictionaries, page_size}
use Rattle.layout.specs.Fields.{untaken_at, current_at, taken_at, page_at, page_word, owner_of, used_of, position_of}
use Rattle.layout.proofs.Ranges.{page-size}
use Rattle.layout.proofs.Places.{page-word}
use Rattle.bytes_buffer.specs.Pages.{Space, fits, grown, grown_at, all_pages}
use Rattle.page_words.specs.Written.{with_used}
use Rattle.bytes_buffer.specs.Spots.{current_of}
use Rattle.bytes_buffer.specs.Tables.{Owned, CurrentPage, PagesAt}
use Rattle.bytes_buffer.proofs.Pages.{size_is, fits-facts, grown-fit, grown-unfit, grown-taken, grown-same, grown-other, pages-fit, pages-unfit}
use Rattle.bytes_buffer.proofs.Tables.{current-below, apart}

-- The space of a dictionary after an entry of n bytes in d.
space-same : (s : Sizes) (sp : ℕ → Space) (d n : ℕ) → ((grown_at s sp d n d).taken ≡ (grown s.p (sp d) n).taken) × ((grown_at s sp d n d).used ≡ (grown s.p (sp d) n).used)
space-same s sp d n = (ap (λ (x : Space). x.taken) (grown-same s sp d n), ap (λ (x : Space). x.used) (grown-same s sp d n))

space-other : (s : Sizes) (sp : ℕ → Space) (d n e : ℕ) → e ≢ d → ((grown_at s sp d n e).taken ≡ (sp e).taken) × ((grown_at s sp d n e).used ≡ (sp e).used)
space-other s sp d n e h = (ap (λ (x : Space). x.taken) (grown-other s sp d n e h), ap (λ (x : Space). x.used) (grown-other s sp d n e h))

-- After it d has a page.
pageless : (s : Sizes) (sp : ℕ → Space) (d n k : ℕ) → (grown_at s sp d n k).taken ≡ zero → k ≢ d
pageless s sp d n k z p = omega (arith, grown-taken s.p (sp d) n, (space-same s sp d n).0, ap (λ (x : ℕ). (grown_at s sp d n x).taken) p)

-- A page that was taken keeps its owner and its position, and no less of it is used.
pub record Kept (W W' : ℕ → ℕ) (i : ℕ) : Type 0 where
  pub owner : owner_of (W' (page_at i)) ≡ owner_of (W (page_at i))
  pub position : position_of (W' (page_at i)) ≡ position_of (W (page_at i))
  pub used : used_of (W (page_at i)) ≤ used_of (W' (page_at i))

kept_word : (W W' : ℕ → ℕ) (i : ℕ) → W' (page_at i) ≡ W (page_at i) → Kept W W' i
kept_word W W' i e = record { owner = ap owner_of e; position = ap position_of e; used = omega arith }

-- Another dictionary's current page, whose words stay.
stays : (sp sp' : ℕ → Space) (W W' : ℕ → ℕ) (e : ℕ) → CurrentPage sp W e → all_pages sp ≤ all_pages sp' → (sp' e).taken ≡ (sp e).taken → (sp' e).used ≡ (sp e).used
    → W' (current_at e) ≡ W (current_at e) → W' (page_at (current_of W e)) ≡ W (page_at (current_of W e)) → CurrentPage sp' W' e
stays sp sp' W W' e P a t u c w =
    let f : W' (page_at (current_of W' e)) ≡ W (page_at (current_of W e)) = ap (λ (x : ℕ). W' (page_at (x - 1))) c ∙ w in
    record {
      some = omega (arith, P.some);
      below = omega (arith, P.below);
      owner = ap owner_of f ∙ P.owner;
      used = ap used_of f ∙ P.used ∙ sym u;
      position = ap (λ (x : ℕ). suc (position_of x)) f ∙ P.position ∙ sym t;
    }

module _ (s : Sizes) (sp : ℕ → Space) (W W' : ℕ → ℕ) (d n : ℕ) (r : InRange s) (H : PagesAt s sp W) (l : d < dictionaries) where
  -- ---- the entry fits: the current page's used part grows

  module _ (e : fits s.p (sp d) n ≡ true) (at : W' (page_at (current_of W d)) ≡ with_used (W (page_at (current_of W d))) ((sp d).used + n))
      (other : (j : ℕ) → j ≢ page_at (current_of W d) → W' j ≡ W j) where
    parts : (owner_of (W' (page_at (current_of W d))) ≡ owner_of (W (page_at (current_of W d)))) × (used_of (W' (page_at (current_of W d))) ≡ (sp d).used + n)
        × (position_of (W' (page_at (current_of W d))) ≡ position_of (W (page_at (current_of W d))))
    parts =
        let w : ℕ = W (page_at (current_of W d)) in
        let p = page-word (owner_of w) ((sp d).used + n) (position_of w) (omega arith) (omega (arith, (fits-facts s.p (sp d) n e).1, size_is s, page-size s r)) in
        (ap owner_of at ∙ p.0, ap used_of at ∙ p.1, ap position_of at ∙ p.2)

    pub extend-kept : (i : ℕ) → Kept W W' i
    extend-kept i = go (ℕ_discrete i (current_of W d))
      where
        go : Dec (i ≡ current_of W d) → Kept W W' i
        go (yes p) = subst (Kept W W') (sym p) record {
          owner = parts.0;
          position = parts.2;
          used = omega (arith, parts.1, (H.current d l (fits-facts s.p (sp d) n e).0).used);
        }
        go (no q) = kept_word W W' i (other (page_at i) (omega arith))

    taken-kept : (k : ℕ) → (grown_at s sp d n k).taken ≡ (sp k).taken
    taken-kept k = go (ℕ_discrete k d)
      where
        go : Dec (k ≡ d) → (grown_at s sp d n k).taken ≡ (sp k).taken
        go (yes p) = subst (λ (x : ℕ). (grown_at s sp d n x).taken ≡ (sp x).taken) (sym p) ((space-same s sp d n).0 ∙ (grown-fit s.p (sp d) n e).0)
        go (no q) = (space-other s sp d n k q).0

    extend-owned : (i : ℕ) → i < all_pages sp → Owned s (W' (page_at i))
    extend-owned i h = record {
      least = omega (arith, (H.owned i h).least, (extend-kept i).owner);
      most = omega (arith, (H.owned i h).most, (extend-kept i).owner);
      inside = go (ℕ_discrete i (current_of W d));
    }
      where
        go : Dec (i ≡ current_of W d) → used_of (W' (page_at i)) ≤ page_size s
        go (yes p) = subst (λ (x : ℕ). used_of (W' (page_at x)) ≤ page_size s) (sym p) (omega (arith, parts.1, (fits-facts s.p (sp d) n e).1, size_is s))
        go (no q) = omega (arith, ap used_of (other (page_at i) (omega arith)), (H.owned i h).inside)

    extend-current : (k : ℕ) → k < dictionaries → 0 < (sp k).taken → CurrentPage (grown_at s sp d n) W' k
    extend-current k h t = go (ℕ_discrete k d)
      where
        go : Dec (k ≡ d) → CurrentPage (grown_at s sp d n) W' k
        go (yes p) =
            let P = H.current d l (fits-facts s.p (sp d) n e).0 in
            let c : W' (current_at d) ≡ W (current_at d) = other (current_at d) (omega arith) in
            let f : W' (page_at (current_of W' d)) ≡ W' (page_at (current_of W d)) = ap (λ (x : ℕ). W' (page_at (x - 1))) c in
            subst (CurrentPage (grown_at s sp d n) W') (sym p) record {
              some = omega (arith, P.some);
              below = omega (arith, P.below, pages-fit s sp d n l e);
              owner = ap owner_of f ∙ parts.0 ∙ P.owner;
              used = ap used_of f ∙ parts.1 ∙ sym ((space-same s sp d n).1 ∙ (grown-fit s.p (sp d) n e).1);
              position = ap (λ (x : ℕ). suc (position_of x)) f ∙ ap suc parts.2 ∙ P.position ∙ sym (taken-kept d);
            }
        go (no q) =
            let P = H.current k h t in
            let a : current_of W k ≢ current_of W d = apart s sp W d k (current_of W k) H l (fits-facts s.p (sp d) n e).0 P.owner q in
            stays sp (grown_at s sp d n) W W' k P (omega (arith, pages-fit s sp d n l e)) (space-other s sp d n k q).0 (space-other s sp d n k q).1
            (other (current_at k) (omega arith))
            (other (page_at (current_of W k)) (omega arith))

    pub extend-keeps : PagesAt s (grown_at s sp d n) W'
    extend-keeps =
        let A : all_pages (grown_at s sp d n) ≡ all_pages sp = pages-fit s sp d n l e in
        let t : 0 < (sp d).taken = (fits-facts s.p (sp d) n e).0 in
        record {
          lowest = other untaken_at (omega arith) ∙ H.lowest ∙ sym A;
          room = omega (arith, H.room);
          owned = λ i h. extend-owned i (omega arith);
          free = λ i k h. let c : current_of W d < all_pages sp = current-below s sp W d H l t in other (page_at i) (omega arith) ∙ H.free i (omega arith) h;
          count = λ k h. other (taken_at k) (omega arith) ∙ H.count k h ∙ sym (taken-kept k);
          without = λ k h z.
              let q = space-other s sp d n k (pageless s sp d n k z) in
              let w = H.without k h (sym q.0 ∙ z) in
              (other (current_at k) (omega arith) ∙ w.0, q.1 ∙ w.1);
          current = λ k h z. extend-current k h (omega (arith, taken-kept k));
          order = λ k i h m o. omega (arith, taken-kept k, (extend-kept i).position, H.order k i h (omega arith) (sym (extend-kept i).owner ∙ o));
          distinct = λ k i j h m v o q p.
              H.distinct k i j h (omega arith) (omega arith) (sym (extend-kept i).owner ∙ o) (sym (extend-kept j).owner ∙ q)
              (sym (extend-kept i).position ∙ p ∙ (extend-kept j).position);
        }

  -- ---- it does not: the lowest untaken page becomes the current one

  module _ (e : fits s.p (sp d) n ≡ false) (b : n ≤ page_size s) (left : all_pages sp < s.n)
      (at : W' (page_at (all_pages sp)) ≡ page_word (d + 1) n (sp d).taken) (cnt : W' (taken_at d) ≡ suc (sp d).taken)
      (cur : W' (current_at d) ≡ suc (all_pages sp)) (low : W' untaken_at ≡ suc (all_pages sp))
      (other : (j : ℕ) → j ≢ page_at (all_pages sp) → j ≢ taken_at d → j ≢ current_at d → j ≢ untaken_at → W' j ≡ W j) where
    new-parts : (owner_of (W' (page_at (all_pages sp))) ≡ suc d) × (used_of (W' (page_at (all_pages sp))) ≡ n) × (position_of (W' (page_at (all_pages sp))) ≡ (sp d).taken)
    new-parts =
        let p = page-word (d + 1) n (sp d).taken (omega arith) (omega (arith, page-size s r)) in
        (ap owner_of at ∙ p.0 ∙ omega arith, ap used_of at ∙ p.1, ap position_of at ∙ p.2)

    page-stays : (i : ℕ) → i ≢ all_pages sp → W' (page_at i) ≡ W (page_at i)
    page-stays i q = other (page_at i) (omega arith) (omega arith) (omega arith) (omega arith)

    current-stays : (k : ℕ) → k < dictionaries → k ≢ d → W' (current_at k) ≡ W (current_at k)
    current-stays k h q = other (current_at k) (omega arith) (omega arith) (omega arith) (omega arith)

    pub take-kept : (i : ℕ) → i < all_pages sp → Kept W W' i
    take-kept i h = kept_word W W' i (page-stays i (omega arith))

    one_more : (grown_at s sp d n d).taken ≡ suc (sp d).taken
    one_more = (space-same s sp d n).0 ∙ (grown-unfit s.p (sp d) n e).0

    take-owned : (i : ℕ) → i < suc (all_pages sp) → Owned s (W' (page_at i))
    take-owned i h = go (ℕ_discrete i (all_pages sp))
      where
        go : Dec (i ≡ all_pages sp) → Owned s (W' (page_at i))
        go (yes p) = subst (λ (x : ℕ). Owned s (W' (page_at x))) (sym p) record {
          least = omega (arith, new-parts.0);
          most = omega (arith, new-parts.0);
          inside = omega (arith, new-parts.1);
        }
        go (no q) = subst (Owned s) (sym (page-stays i q)) (H.owned i (omega arith))

    take_count : (k : ℕ) → k < dictionaries → W' (taken_at k) ≡ (grown_at s sp d n k).taken
    take_count k h = go (ℕ_discrete k d)
      where
        go : Dec (k ≡ d) → W' (taken_at k) ≡ (grown_at s sp d n k).taken
        go (yes p) = subst (λ (x : ℕ). W' (taken_at x) ≡ (grown_at s sp d n x).taken) (sym p) (cnt ∙ sym one_more)
        go (no q) = other (taken_at k) (omega arith) (omega arith) (omega arith) (omega arith) ∙ H.count k h ∙ sym (space-other s sp d n k q).0

    take-current : (k : ℕ) → k < dictionaries → 0 < (grown_at s sp d n k).taken → CurrentPage (grown_at s sp d n) W' k
    take-current k h t = go (ℕ_discrete k d)
      where
        go : Dec (k ≡ d) → CurrentPage (grown_at s sp d n) W' k
        go (yes p) =
            let c : current_of W' d ≡ all_pages sp = omega (arith, cur) in
            let f : W' (page_at (current_of W' d)) ≡ W' (page_at (all_pages sp)) = ap (λ (x : ℕ). W' (page_at x)) c in
            subst (CurrentPage (grown_at s sp d n) W') (sym p) record {
              some = omega arith;
              below = omega (arith, pages-unfit s sp d n l e);
              owner = ap owner_of f ∙ new-parts.0;
              used = ap used_of f ∙ new-parts.1 ∙ sym ((space-same s sp d n).1 ∙ (grown-unfit s.p (sp d) n e).1);
              position = ap (λ (x : ℕ). suc (position_of x)) f ∙ ap suc new-parts.2 ∙ sym one_more;
            }
        go (no q) =
            let o = space-other s sp d n k q in
            let v : 0 < (sp k).taken = omega (arith, o.0) in
            stays sp (grown_at s sp d n) W W' k (H.current k h v) (omega (arith, pages-unfit s sp d n l e)) o.0 o.1 (current-stays k h q)
            (page-stays (current_of W k) (omega (arith, current-below s sp W k H h v)))

    -- A page that d had stands before the new one.
    before : (i : ℕ) → i < all_pages sp → owner_of (W' (page_at i)) ≡ suc d → position_of (W' (page_at i)) < (sp d).taken
    before i h o = omega (arith, (take-kept i h).position, H.order d i l h (sym (take-kept i h).owner ∙ o))

    -- A page of dictionary k has a position below its number of pages.
    take-order : (k i : ℕ) → k < dictionaries → i < suc (all_pages sp) → owner_of (W' (page_at i)) ≡ suc k → position_of (W' (page_at i)) < (grown_at s sp d n k).taken
    take-order k i h m o = go (ℕ_discrete i (all_pages sp)) (ℕ_discrete k d)
      where
        go : Dec (i ≡ all_pages sp) → Dec (k ≡ d) → position_of (W' (page_at i)) < (grown_at s sp d n k).taken
        go (yes p) (yes q) =
            let a : position_of (W' (page_at i)) ≡ (sp d).taken = ap (λ (x : ℕ). position_of (W' (page_at x))) p ∙ new-parts.2 in
            let g : (grown_at s sp d n k).taken ≡ suc (sp d).taken = ap (λ (x : ℕ). (grown_at s sp d n x).taken) q ∙ one_more in
            omega arith
        go (yes p) (no q) =
            let a : owner_of (W' (page_at i)) ≡ suc d = ap (λ (x : ℕ). owner_of (W' (page_at x))) p ∙ new-parts.0 in
            absurd (q (omega arith))
        go (no p) (yes q) =
            let g : (grown_at s sp d n k).taken ≡ suc (sp d).taken = ap (λ (x : ℕ). (grown_at s sp d n x).taken) q ∙ one_more in
            omega (arith, before i (omega arith) (o ∙ ap suc q))
        go (no p) (no q) =
            let K = take-kept i (omega arith) in
            omega (arith, (space-other s sp d n k q).0, K.position, H.order k i h (omega arith) (sym K.owner ∙ o))

    -- No page that was taken has the new one's owner and position.
    new-alone : (k i j : ℕ) → i ≡ all_pages sp → j < all_pages sp → owner_of (W' (page_at i)) ≡ suc k → owner_of (W' (page_at j)) ≡ suc k
        → position_of (W' (page_at i)) ≢ position_of (W' (page_at j))
    new-alone k i j p h o q e =
        let a : owner_of (W' (page_at i)) ≡ suc d = ap (λ (x : ℕ). owner_of (W' (page_at x))) p ∙ new-parts.0 in
        let b : position_of (W' (page_at i)) ≡ (sp d).taken = ap (λ (x : ℕ). position_of (W' (page_at x))) p ∙ new-parts.2 in
        omega (arith, before j h (q ∙ sym o ∙ a))

    -- Two pages of dictionary k with the same position are one.
    take-distinct : (k i j : ℕ) → k < dictionaries → i < suc (all_pages sp) → j < suc (all_pages sp) → owner_of (W' (page_at i)) ≡ suc k → owner_of (W' (page_at j)) ≡ suc k
        → position_of (W' (page_at i)) ≡ position_of (W' (page_at j))
        → i ≡ j
    take-distinct k i j h m v o q e = go (ℕ_discrete i (all_pages sp)) (ℕ_discrete j (all_pages sp))
      where
        go : Dec (i ≡ all_pages sp) → Dec (j ≡ all_pages sp) → i ≡ j
        go (yes a) (yes b) = a ∙ sym b
        go (yes a) (no b) = absurd (new-alone k i j a (omega arith) o q e)
        go (no a) (yes b) = absurd (new-alone k j i b (omega arith) q o (sym e))
        go (no a) (no b) =
            let I = take-kept i (omega arith) in
            let J = take-kept j (omega arith) in
            H.distinct k i j h (omega arith) (omega arith) (sym I.owner ∙ o) (sym J.owner ∙ q) (sym I.position ∙ e ∙ J.position)

    pub take-keeps : PagesAt s (grown_at s sp d n) W'
    take-keeps =
        let A : all_pages (grown_at s sp d n) ≡ suc (all_pages sp) = pages-unfit s sp d n l e in
        record {
          lowest = low ∙ sym A;
          room = omega arith;
          owned = λ i h. take-owned i (omega arith);
          free = λ i k h. page-stays i (omega arith) ∙ H.free i (omega arith) h;
          count = take_count;
          without = λ k h z.
              let q = pageless s sp d n k z in
              let o = space-other s sp d n k q in
              let w = H.without k h (sym o.0 ∙ z) in
              (current-stays k h q ∙ w.0, o.1 ∙ w.1);
          current = take-current;
          order = λ k i h m o. take-order k i h (omega arith) o;
          distinct = λ k i j h m v. take-distinct k i j h (omega arith) (omega arith);
        }
