-- A planned entry lies behind all entries in its page, and behind all entries of its dictionary. Assumes nothing.
use Prim.Native.Nat.{ℕ, suc, ◌+◌, ◌*◌, ◌≤◌, ◌<◌}
use mathlib.Core.Path.{◌≡◌, ap, subst, ◌∙◌}
use mathlib.Core.Logic.{◌≢◌, ◌⊎◌, inl, inr}
use mathlib.Core.Bool.{true, false}
use native.Mathlib.Omega.{arith}
use native.Mathlib.Decide.{ℕ_discrete}
use lib.ListN.{length}
use Rattle.slices.specs.Bytes.{Bytes}
use Rattle.words.specs.Words.{word_at, quad_at}
use Rattle.words.proofs.Laws.{quad-agree}
use Rattle.layout.specs.declared.Sizes.{Sizes}
use Rattle.layout.specs.Sizes.{InRange, dictionaries, page_size, list_bytes}
use Rattle.layout.specs.Fields.{current_at, page_at, count_at, entry_at, order_at, place_at, owner_of, used_of, position_of}
use Rattle.layout.proofs.Places.{dict-from}
use Rattle.bytes_buffer.specs.Pages.{Space, fits, grown_at, all_pages}
use Rattle.page_words.specs.Written.{extended_page, took_page}
use Rattle.bytes_buffer.specs.Spots.{current_of}
use Rattle.bytes_buffer.specs.Tables.{PagesAt}
use Rattle.bytes_buffer.proofs.Pages.{fits-facts, grown-fit, grown-unfit, grown-taken, grown-same}
use Rattle.page_words.proofs.Words.{extended-other, extended-beyond, took-other, took-beyond, took-current}
use Rattle.bytes_buffer.proofs.Tables.{SameTables, current-below, fresh, owned_below, used-inside}
use Rattle.bytes_buffer.proofs.Tables.{last as last-page}
use Rattle.bytes_buffer.proofs.Steps.{Kept}
use Rattle.bytes_buffer.proofs.Commits.{extended-holds, extended-kept, take-may, took-holds, took-kept}
use Rattle.bytes_dictionary.proofs.Steps.{Step}

pub record Placed (s : Sizes) (W W' : ℕ → ℕ) (d page offset len : ℕ) : Type 0 where
  pub paged : page < s.n
  pub inside : offset + len ≤ page_size s
  -- what is used of the page ends at the offset, if the page is anyone's
  pub behind : (k : ℕ) → owner_of (W (page_at page)) ≡ suc k → used_of (W (page_at page)) ≤ offset
  pub owner : owner_of (W' (page_at page)) ≡ suc d
  pub used : used_of (W' (page_at page)) ≡ offset + len
  pub kept : (k i : ℕ) → i < s.n → owner_of (W (page_at i)) ≡ suc k → Kept W W' i
  -- the page is the last of its dictionary's
  pub last : (i : ℕ) → i < s.n → owner_of (W (page_at i)) ≡ suc d → (position_of (W (page_at i)) < position_of (W' (page_at page))) ⊎ (i ≡ page)

-- The page is the current one of its dictionary afterwards.
module _ (s : Sizes) (sp : ℕ → Space) (W W' : ℕ → ℕ) (d page offset n : ℕ) (l : d < dictionaries) (H : PagesAt s sp W) (H' : PagesAt s (grown_at s sp d n) W')
    (c : W' (current_at d) ≡ page + 1) (u : (grown_at s sp d n d).used ≡ offset + n)
    (behind : (k : ℕ) → owner_of (W (page_at page)) ≡ suc k → used_of (W (page_at page)) ≤ offset)
    (kept : (k i : ℕ) → i < s.n → owner_of (W (page_at i)) ≡ suc k → Kept W W' i) where
  some : 0 < (grown_at s sp d n d).taken
  some = omega (arith, grown-taken s.p (sp d) n, ap (λ (x : Space). x.taken) (grown-same s sp d n))

  here : current_of W' d ≡ page
  here = omega (arith, c)

  last : (i : ℕ) → i < s.n → owner_of (W (page_at i)) ≡ suc d → (position_of (W (page_at i)) < position_of (W' (page_at page))) ⊎ (i ≡ page)
  last i h o = go (ℕ_discrete (suc (position_of (W' (page_at i)))) (grown_at s sp d n d).taken)
    where
      K : Kept W W' i
      K = kept d i h o

      o' : owner_of (W' (page_at i)) ≡ suc d
      o' = K.owner ∙ o

      b : i < all_pages (grown_at s sp d n)
      b = owned_below s (grown_at s sp d n) W' d i H' h o'

      position : suc (position_of (W' (page_at page))) ≡ (grown_at s sp d n d).taken
      position = subst (λ (x : ℕ). suc (position_of (W' (page_at x))) ≡ (grown_at s sp d n d).taken) here (H'.current d l some).position

      below : (a a' q t : ℕ) → a' ≡ a → suc q ≡ t → a' < t → suc a' ≢ t → a < q
      below a a' q t e f g x = omega arith

      go : Dec (suc (position_of (W' (page_at i))) ≡ (grown_at s sp d n d).taken) → (position_of (W (page_at i)) < position_of (W' (page_at page))) ⊎ (i ≡ page)
      go (yes p) = inr (omega (arith, last-page s (grown_at s sp d n) W' H' d i l b o' p, c))
      go (no p) = inl (below _ _ _ _ K.position position (H'.order d i l b o') p)

  placed : Placed s W W' d page offset n
  placed =
      let C = H'.current d l some in
      record {
        paged = omega (arith, current-below s (grown_at s sp d n) W' d H' l some, here, H'.room);
        inside = omega (arith, used-inside s (grown_at s sp d n) W' d H' l some);
        behind = behind;
        owner = subst (λ (x : ℕ). owner_of (W' (page_at x)) ≡ suc d) here C.owner;
        used = subst (λ (x : ℕ). used_of (W' (page_at x)) ≡ (grown_at s sp d n d).used) here C.used ∙ u;
        kept = kept;
        last = last;
      }

module _ (s : Sizes) (sp : ℕ → Space) (lists : Bytes) (d n : ℕ) (r : InRange s) (f : list_bytes s ≤ length lists) (H : PagesAt s sp (word_at lists)) (l : d < dictionaries) where
  -- Behind what the current page has.
  pub placed-current : fits s.p (sp d) n ≡ true
      → Placed s (word_at lists) (word_at (extended_page lists (current_of (word_at lists) d) ((sp d).used + n))) d (current_of (word_at lists) d) (sp d).used n
  placed-current e =
      let t : 0 < (sp d).taken = (fits-facts s.p (sp d) n e).0 in
      let C = H.current d l t in
      let c : word_at (extended_page lists (current_of (word_at lists) d) ((sp d).used + n)) (current_at d) ≡ word_at lists (current_at d) =
      extended-other lists (current_of (word_at lists) d) ((sp d).used + n) (current_at d) (omega arith) in
      placed s sp (word_at lists) _ d (current_of (word_at lists) d) (sp d).used n l H (extended-holds s sp lists d n r f H l e)
      (omega (arith, c, C.some))
      (ap (λ (x : Space). x.used) (grown-same s sp d n) ∙ (grown-fit s.p (sp d) n e).1)
      (λ k o. let q = C.used in omega arith)
      (λ k i h o. extended-kept s sp lists d n r f H l e i)

  -- At the front of the lowest untaken page.
  pub placed-next : fits s.p (sp d) n ≡ false → n ≤ page_size s → all_pages sp < s.n
      → Placed s (word_at lists) (word_at (took_page lists d (all_pages sp) n)) d (all_pages sp) 0 n
  placed-next e b left =
      let m = take-may s sp lists d n r f H l e b left in
      placed s sp (word_at lists) _ d (all_pages sp) 0 n l H (took-holds s sp lists d n r f H l e b left)
      (took-current lists d (all_pages sp) n m.0 l m.2 (omega (arith, r.n)))
      (ap (λ (x : Space). x.used) (grown-same s sp d n) ∙ (grown-unfit s.p (sp d) n e).1 ∙ omega arith)
      (λ k o. let z = (fresh s sp (word_at lists) H left).1 in absurd (omega arith))
      (λ k i h o. took-kept s sp lists d n r f H l e b left i (owned_below s sp (word_at lists) k i H h o))

-- The same seen from words whose tables agree.
module _ (s : Sizes) (W W₁ W₂ : ℕ → ℕ) (d page offset len : ℕ) (A : SameTables s W W₁) (P : Placed s W₁ W₂ d page offset len) where
  pub placed_same : Placed s W W₂ d page offset len
  placed_same =
      record {
        paged = P.paged;
        inside = P.inside;
        behind = λ k o. subst (λ (x : ℕ). used_of x ≤ offset) (A.pages page P.paged) (P.behind k (ap owner_of (A.pages page P.paged) ∙ o));
        owner = P.owner;
        used = P.used;
        kept = λ k i h o.
            let e = A.pages i h in
            let K = P.kept k i h (ap owner_of e ∙ o) in
            record { owner = K.owner ∙ ap owner_of e; position = K.position ∙ ap position_of e; used = subst (λ (x : ℕ). used_of x ≤ used_of (W₂ (page_at i))) e K.used };
        last = λ i h o.
            let e = A.pages i h in
            subst (λ (x : ℕ). (position_of x < position_of (W₂ (page_at page))) ⊎ (i ≡ page)) e (P.last i h (ap owner_of e ∙ o));
      }

-- ---- the page's words are apart from the dictionaries'

-- Lists that agree from the dictionaries' words on, and on their counts.
pub record ListsBeyond (s : Sizes) (lists lists' : Bytes) : Type 0 where
  pub words : (j : ℕ) → 64 + s.n ≤ j → word_at lists' j ≡ word_at lists j
  pub quads : (j : ℕ) → 2 * (64 + s.n) ≤ j → quad_at lists' j ≡ quad_at lists j
  pub counts : (k : ℕ) → k < dictionaries → word_at lists' (count_at k) ≡ word_at lists (count_at k)

pub beyond-extended : (s : Sizes) (lists : Bytes) (page used : ℕ) → page < s.n → ListsBeyond s lists (extended_page lists page used)
beyond-extended s lists page used l =
    record {
      words = λ j h. extended-other lists page used j (omega arith);
      quads = λ j h. quad-agree (extended_page lists page used) lists j (λ k g. extended-beyond lists page used (4 * j + k) (omega arith));
      counts = λ k h. extended-other lists page used (count_at k) (omega arith);
    }

pub beyond-took : (s : Sizes) (lists : Bytes) (d page used : ℕ) → d < dictionaries → page < s.n → ListsBeyond s lists (took_page lists d page used)
beyond-took s lists d page used dl l =
    record {
      words = λ j h. took-other lists d page used j (omega arith) (omega arith) (omega arith) (omega arith);
      quads = λ j h. quad-agree (took_page lists d page used) lists j (λ k g. took-beyond lists d page used dl (4 * j + k) (omega arith));
      counts = λ k h. took-other lists d page used (count_at k) (omega arith) (omega arith) (omega arith) (omega arith);
    }

pub step-beyond : (s : Sizes) (lists lists₁ lists₂ : Bytes) (d n page offset len stamp place h : ℕ) → d < dictionaries → ListsBeyond s lists₁ lists₂
    → Step s lists lists₁ d n page offset len stamp place h → Step s lists lists₂ d n page offset len stamp place h
step-beyond s lists lists₁ lists₂ d n page offset len stamp place h dl B S =
    record {
      entry = B.words (entry_at s d n) (omega (arith, dict-from s d)) ∙ S.entry;
      order = B.words (order_at s d n) (omega (arith, dict-from s d)) ∙ S.order;
      named = B.quads (place_at s d place) (omega (arith, dict-from s d)) ∙ S.named;
      counted = B.counts d dl ∙ S.counted;
      entries = λ k i kl il o. B.words (entry_at s k i) (omega (arith, dict-from s k)) ∙ S.entries k i kl il o;
      orders = λ k i kl il o. B.words (order_at s k i) (omega (arith, dict-from s k)) ∙ S.orders k i kl il o;
      places = λ k j kl jl o. B.quads (place_at s k j) (omega (arith, dict-from s k)) ∙ S.places k j kl jl o;
      counts = λ k kl q. B.counts k kl ∙ S.counts k kl q;
    }
