-- A kind's part with one more name is good; the stamps. Assumes nothing.
use Prim.Native.Nat.{ℕ, zero, suc, ◌<◌, ◌≤◌}
use mathlib.Core.Path.{◌≡◌, refl, ap, sym, subst}
use mathlib.Core.Logic.{inl, inr}
use mathlib.Core.Bool.{true, false, ◌&&◌}
use mathlib.Core.List.{List, [], ◌∷◌}
use mathlib.Core.Option.{Option, none, some}
use native.Mathlib.Omega.{arith}
use native.Mathlib.Decide.{ℕ_discrete}
use borrow.Author.Tests.{leb-false, eq-eqb, ne_eqb}
use lib.Dec.{leb}
use lib.ListN.{length}
use Rattle.slices.specs.Bytes.{Bytes, same_bytes}
use Rattle.slices.specs.Updates.{upd}
use Rattle.slices.proofs.Bytes.{bytes_same}
use Rattle.slices.proofs.Tests.{Split, split, and_left, and_right, or_left, or_right, clash}
use Rattle.layout.specs.declared.Sizes.{Sizes}
use Rattle.bytes_buffer.specs.Pages.{sum}
use Rattle.model.specs.Names.{Name}
use Rattle.model.specs.Kinds.{row}
use Rattle.model.specs.State.{Stamped, Part, local_of, entry_number}
use Rattle.model.specs.Steps.{checks, is_none, name_head, new_head, is_full, part_after}
use Rattle.model.specs.Good.{NamesOf, Covered, GoodPart}

-- ---- stamps

sum-other : (f : ℕ → ℕ) (k x n : ℕ) → n ≤ k → sum (upd f k x) n ≡ sum f n
sum-other f k x zero h = refl
sum-other f k x (suc n) h = rw (sum-other f k x n (omega arith), ne_eqb k n (λ e. omega arith))

pub sum_more : (f : ℕ → ℕ) (k n : ℕ) → k < n → sum (upd f k (suc (f k))) n ≡ suc (sum f n)
sum_more f k zero h = absurd (omega arith)
sum_more f k (suc n) h = go (ℕ_discrete k n) (λ l. sum_more f k n l)
  where
    go : Dec (k ≡ n) → (k < n → sum (upd f k (suc (f k))) n ≡ suc (sum f n)) → sum (upd f k (suc (f k))) (suc n) ≡ suc (sum f (suc n))
    go (yes e) ih = rw (sum-other f k (suc (f k)) n (omega arith), eq-eqb k n e, e) (omega arith)
    go (no q) ih = rw (ne_eqb k n q, ih (omega arith)) (omega arith)

pub later : (s : Sizes) (k t u : ℕ) (xs : List Stamped) → t ≤ u → NamesOf s k t xs → NamesOf s k u xs
later s k t u [] h o = tt
later s k t u (x ∷ xs) h o = (o.0, o.1, o.2, omega (arith, o.3), o.4)

-- ---- heads

head-known : (h x : Bytes) (hs : List Bytes) (f : ℕ) → entry_number h hs ≡ some f → (g : ℕ) × (entry_number h (x ∷ hs) ≡ some g)
head-known h x hs f e = go (split (same_bytes h x))
  where
    go : Split (same_bytes h x) → (g : ℕ) × (entry_number h (x ∷ hs) ≡ some g)
    go (inl p) = (length hs, rw p)
    go (inr p) = (f, rw p e)

covered_more : (x : Bytes) (hs : List Bytes) (xs : List Stamped) → Covered hs xs → Covered (x ∷ hs) xs
covered_more x hs [] c = tt
covered_more x hs (y ∷ xs) c = (head-known (name_head y.name) x hs c.0.0 c.0.1, covered_more x hs xs c.1)

pub is-none : (o : Option ℕ) → is_none o ≡ true → o ≡ none
is-none none e = refl
is-none (some f) e = cc

pub is_some : (o : Option ℕ) → is_none o ≡ false → (f : ℕ) × (o ≡ some f)
is_some none e = cc
is_some (some f) e = (f, refl)

-- ---- a kind's part

module _ (s : Sizes) (a : Name) (t n : ℕ) (pt : Part) (G : GoodPart s a.kind t n pt)
    (legal : checks s a ≡ none) (new : local_of a pt.names ≡ none) (roomy : is_full s a pt ≡ false) where
  pub part-good : GoodPart s a.kind (suc t) (suc n) (part_after a pt t)
  part-good = go (split (new_head a pt))
    where
      few : length pt.names < s.e
      few = leb-false s.e (length pt.names) (or_left (leb s.e (length pt.names)) _ roomy)

      Names : NamesOf s a.kind (suc t) (record { name = a; stamp = t } ∷ pt.names)
      Names = (legal, refl, new, omega arith, G.names)

      go : Split (new_head a pt) → GoodPart s a.kind (suc t) (suc n) (part_after a pt t)
      go (inl p) =
          let pair : (row a.kind).paired ≡ true = and_left (row a.kind).paired _ p in
          let no-head : entry_number (name_head a) pt.heads ≡ none = is-none _ (and_right (row a.kind).paired _ p) in
          let full : (new_head a pt && leb s.e (length pt.heads)) ≡ false = or_right (leb s.e (length pt.names)) _ roomy in
          let few-heads : length pt.heads < s.e = leb-false s.e (length pt.heads) (rw p at full) in
          let heads : (part_after a pt t).heads ≡ name_head a ∷ pt.heads = rw p in
          record {
            names = Names;
            numbered = ap suc G.numbered;
            few_names = few;
            different = rw p (no-head, G.different);
            few_heads = rw p few-heads;
            covered = λ e. subst (λ (hs : List Bytes). Covered hs (part_after a pt t).names) (sym heads) ((length pt.heads, rw (bytes_same (name_head a))), covered_more (name_head a) pt.heads pt.names (G.covered e));
            headless = λ e. clash pair e;
          }
      go (inr p) = let heads : (part_after a pt t).heads ≡ pt.heads = rw p in record {
        names = Names;
        numbered = ap suc G.numbered;
        few_names = few;
        different = rw p G.different;
        few_heads = rw p G.few_heads;
        covered = λ e. subst (λ (hs : List Bytes). Covered hs (part_after a pt t).names) (sym heads) (is_some (entry_number (name_head a) pt.heads) (rw e at p), G.covered e);
        headless = λ e. rw p (G.headless e);
      }
