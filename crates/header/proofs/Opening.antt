-- The check of the header refuses in every case where document 01 requires it. It passes a dictionary's memory, and no other. Assumes nothing.
use Prim.Native.Nat.{ℕ, ◌+◌, ◌*◌, ◌≤◌}
use mathlib.Core.Path.{◌≡◌, refl, sym, ap, ◌∙◌}
use mathlib.Core.Logic.{◌≢◌, inl, inr}
use mathlib.Core.Bool.{Bool, true, false, not, cond}
use native.Mathlib.Omega.{arith}
use borrow.Author.Tests.{lt-ltb, le-ltb, eq-eqb, ne_eqb, eqb-true, ltb-false, not-false}
use lib.Dec.{eqb, ltb}
use lib.ListN.{length, get_or, replicate, get_or-replicate}
use Rattle.std.specs.Prelude.{Result, Ok, Err}
use Rattle.slices.specs.Bytes.{Bytes}
use Rattle.slices.proofs.Tests.{Split, split, clash}
use Rattle.words.specs.Words.{word_at}
use Rattle.words.proofs.Laws.{word-zero}
use Rattle.layout.specs.declared.Sizes.{Sizes}
use Rattle.layout.specs.Sizes.{in_range, page_bytes, list_bytes}
use Rattle.layout.specs.Fields.{format}
use Rattle.refusals.specs.declared.Refusal.{Refusal}
use Rattle.refusals.specs.declared.Refusal.TheVariants.{Unopened}
use Rattle.header.specs.Header.{sizes_in, header_of, AlwaysUnopened, all-zero, under-512, out_of_range, short-pages, short-lists, HeaderOf}

-- ---- one test of the chain of refusals

-- It refuses.
stop : (c : Bool) (x : Result Sizes Refusal) → c ≡ true → cond c (Err Unopened) x ≡ Err Unopened
stop true x e = refl
stop false x e = clash e refl

-- A later one does.
later : (c : Bool) (x : Result Sizes Refusal) → x ≡ Err Unopened → cond c (Err Unopened) x ≡ Err Unopened
later true x e = refl
later false x e = e

-- It lets by.
past : (c : Bool) (x y : Result Sizes Refusal) → c ≡ false → x ≡ y → cond c (Err Unopened) x ≡ y
past true x y e p = clash refl e
past false x y e p = p

-- It let by.
passed : (c : Bool) (x : Result Sizes Refusal) (s : Sizes) → cond c (Err Unopened) x ≡ Ok s → (c ≡ false) × (x ≡ Ok s)
passed true x s e = let z : ◌≡◌ {A = ℕ} 0 1 = cc in absurd (omega arith)
passed false x s e = (refl, e)

-- ---- the check

-- Its five tests.
abbrev small : Bytes → Bool
small lists = ltb (length lists) 512

abbrev foreign : Bytes → Bool
foreign lists = not (eqb (word_at lists 0) format)

abbrev outside : Bytes → Bool
outside lists = not (in_range (sizes_in lists))

abbrev pages-short : ℕ → Bytes → Bool
pages-short pages lists = ltb pages (page_bytes (sizes_in lists))

abbrev lists-short : Bytes → Bool
lists-short lists = ltb (length lists) (list_bytes (sizes_in lists))

-- Refusal 3 is given if the first word is not the format.
pub unformatted : (pages : ℕ) (lists : Bytes) → word_at lists 0 ≢ format → header_of pages lists ≡ Err Unopened
unfolding header_of
unformatted pages lists n = later (small lists) _ (stop (foreign lists) _ (ap not (ne_eqb (word_at lists 0) format n)))

-- Every lists has 64 words before the pages' ones.
pub least : (s : Sizes) → 512 ≤ list_bytes s
unfolding list_bytes
least s = omega arith

zero_word : (lists : Bytes) → lists ≡ replicate (length lists) 0 → 512 ≤ length lists → word_at lists 0 ≡ 0
zero_word lists z l =
    word-zero lists 0 (λ k h. ap (λ (x : Bytes). get_or x (8 * 0 + k) 0) z ∙ get_or-replicate (length lists) (8 * 0 + k) 0 0 (omega arith))

-- Refusal 3 is given in every case where document 01 requires it.
pub always : (pages lists : Bytes) → AlwaysUnopened pages lists → header_of (length pages) lists ≡ Err Unopened
unfolding header_of
always pages lists (all-zero z) = zero (split (small lists))
  where
    zero : Split (small lists) → header_of (length pages) lists ≡ Err Unopened
    zero (inl p) = stop (small lists) _ p
    zero (inr p) = unformatted (length pages) lists (let e : word_at lists 0 ≡ 0 = zero_word lists z (ltb-false _ _ p) in omega arith)
always pages lists (under-512 h) = stop (small lists) _ (lt-ltb _ _ h)
always pages lists (out_of_range h) = later (small lists) _ (later (foreign lists) _ (stop (outside lists) _ (ap not h)))
always pages lists (short-pages h) =
    later (small lists) _ (later (foreign lists) _ (later (outside lists) _ (stop (pages-short (length pages) lists) _ (lt-ltb _ _ h))))
always pages lists (short-lists h) =
    later (small lists) _ (later (foreign lists) _ (later (outside lists) _ (later (pages-short (length pages) lists) _ (stop (lists-short lists) _ (lt-ltb _ _ h)))))

-- The check passes every memory with a dictionary's header, and gives its sizes.
pub passes : (s : Sizes) (pages lists : Bytes) → HeaderOf s (length pages) lists → header_of (length pages) lists ≡ Ok s
unfolding header_of
passes s pages lists h =
    let l : list_bytes (sizes_in lists) ≤ length lists = omega (arith, ap list_bytes h.sizes-are, h.lists-fit) in
    past (small lists) _ _ (le-ltb (length lists) 512 (omega (arith, least (sizes_in lists))))
    (past (foreign lists) _ _ (ap not (eq-eqb (word_at lists 0) format h.format-is))
    (past (outside lists) _ _ (ap not (ap in_range h.sizes-are ∙ h.ranged))
    (past (pages-short (length pages) lists) _ _ (le-ltb _ (page_bytes (sizes_in lists)) (omega (arith, ap page_bytes h.sizes-are, h.pages-fit)))
    (past (lists-short lists) _ _ (le-ltb _ _ l) (ap Ok h.sizes-are)))))

-- What it passes has a dictionary's header.
pub opened-by : (pages : ℕ) (lists : Bytes) (s : Sizes) → header_of pages lists ≡ Ok s → HeaderOf s pages lists
unfolding header_of
opened-by pages lists s e =
    let a = passed (small lists) _ s e in
    let b = passed (foreign lists) _ s a.1 in
    let d = passed (outside lists) _ s b.1 in
    let f = passed (pages-short pages lists) _ s d.1 in
    let g = passed (lists-short lists) _ s f.1 in
    let q : sizes_in lists ≡ s = cc g.1 in
    record {
      format-is = eqb-true (word_at lists 0) format (not-false _ b.0);
      sizes-are = q;
      ranged = ap in_range (sym q) ∙ not-false _ d.0;
      pages-fit = omega (arith, ap page_bytes q, ltb-false pages (page_bytes (sizes_in lists)) f.0);
      lists-fit = omega (arith, ap list_bytes q, ltb-false (length lists) (list_bytes (sizes_in lists)) g.0);
    }
