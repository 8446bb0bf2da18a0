-- What `extend` and `take_page` leave in `lists` holds the grown spaces. Assumes nothing.
use Prim.Native.Nat.{ℕ, suc, ◌+◌, ◌*◌, ◌^◌, ◌≤◌, ◌<◌}
use mathlib.Core.Path.{◌≡◌, ◌∙◌, ap}
use mathlib.Core.Bool.{true, false}
use native.Mathlib.Omega.{arith}
use lib.ListN.{length}
use Rattle.slices.specs.Bytes.{Bytes}
use Rattle.words.specs.Words.{word_at}
use Rattle.layout.specs.declared.Sizes.{Sizes}
use Rattle.layout.specs.Sizes.{InRange, dictionaries, page_size, list_bytes}
use Rattle.layout.specs.Fields.{untaken_at, current_at, taken_at, page_at, page_word}
use Rattle.layout.proofs.Ranges.{page-size}
use Rattle.bytes_buffer.specs.Pages.{Space, fits, grown_at, all_pages}
use Rattle.page_words.specs.Written.{with_used, extended_page, pages_of, took_page}
use Rattle.bytes_buffer.specs.Spots.{current_of}
use Rattle.bytes_buffer.specs.Tables.{PagesAt}
use Rattle.bytes_buffer.proofs.Pages.{size_is, fits-facts, taken-most}
use Rattle.bytes_buffer.proofs.Tables.{current-below}
use Rattle.page_words.proofs.Words.{extended-same, extended-other, took-other, took-untaken, took-current, took-count, took-page}
use Rattle.bytes_buffer.proofs.Steps.{Kept, extend-kept, extend-keeps, take-kept, take-keeps}

-- A page's word lies in `lists`.
pub page-in : (s : Sizes) (lists : Bytes) (i : ℕ) → list_bytes s ≤ length lists → i < s.n → 8 * page_at i + 8 ≤ length lists
unfolding list_bytes
page-in s lists i f h = omega arith

module _ (s : Sizes) (sp : ℕ → Space) (lists : Bytes) (d n : ℕ) (r : InRange s) (f : list_bytes s ≤ length lists) (H : PagesAt s sp (word_at lists)) (l : d < dictionaries) where
  -- ---- the entry fits

  module _ (e : fits s.p (sp d) n ≡ true) where
    used-small : (sp d).used + n < 2097152
    used-small = omega (arith, (fits-facts s.p (sp d) n e).1, size_is s, page-size s r)

    current-in : current_of (word_at lists) d < s.n
    current-in = omega (arith, current-below s sp (word_at lists) d H l (fits-facts s.p (sp d) n e).0, H.room)

    -- A position is below 1,024, so the word has room to spare.
    word_small : word_at lists (page_at (current_of (word_at lists) d)) < 2 ^ 64
    word_small =
        let t : 0 < (sp d).taken = (fits-facts s.p (sp d) n e).0 in
        omega (arith, (H.current d l t).position, taken-most sp d l, H.room, r.n.1)

    -- `extend`'s requirement.
    pub extend-may : (8 * page_at (current_of (word_at lists) d) + 8 ≤ length lists) × ((sp d).used + n < 2097152)
    extend-may = (page-in s lists (current_of (word_at lists) d) f current-in, used-small)

    extend-at : word_at (extended_page lists (current_of (word_at lists) d) ((sp d).used + n)) (page_at (current_of (word_at lists) d)) ≡ with_used (word_at lists (page_at (current_of (word_at lists) d))) ((sp d).used + n)
    extend-at = extended-same lists (current_of (word_at lists) d) ((sp d).used + n) extend-may.0 used-small word_small

    pub extended-holds : PagesAt s (grown_at s sp d n) (word_at (extended_page lists (current_of (word_at lists) d) ((sp d).used + n)))
    extended-holds = extend-keeps s sp (word_at lists) _ d n r H l e extend-at (extended-other lists (current_of (word_at lists) d) ((sp d).used + n))

    pub extended-kept : (i : ℕ) → Kept (word_at lists) (word_at (extended_page lists (current_of (word_at lists) d) ((sp d).used + n))) i
    extended-kept = extend-kept s sp (word_at lists) _ d n r H l e extend-at (extended-other lists (current_of (word_at lists) d) ((sp d).used + n))

  -- ---- it does not, and a page is left

  module _ (e : fits s.p (sp d) n ≡ false) (b : n ≤ page_size s) (left : all_pages sp < s.n) where
    -- `take_page`'s requirement, and that d is a dictionary's number.
    pub take-may : (8 * page_at (all_pages sp) + 8 ≤ length lists) × (d < dictionaries) × (n < 2097152)
    take-may = (page-in s lists (all_pages sp) f left, l, omega (arith, page-size s r))

    -- The number of pages read is the whole word: some page is left.
    counted : pages_of lists d ≡ (sp d).taken
    counted = omega (arith, H.count d l, taken-most sp d l, r.n.1)

    page-small : all_pages sp < 1024
    page-small = omega (arith, r.n.1)

    took-at : word_at (took_page lists d (all_pages sp) n) (page_at (all_pages sp)) ≡ page_word (d + 1) n (sp d).taken
    took-at = took-page lists d (all_pages sp) n take-may.0 l take-may.2 page-small ∙ ap (page_word (d + 1) n) counted

    took-cnt : word_at (took_page lists d (all_pages sp) n) (taken_at d) ≡ suc (sp d).taken
    took-cnt = omega (arith, took-count lists d (all_pages sp) n take-may.0 l take-may.2 page-small, counted)

    took-cur : word_at (took_page lists d (all_pages sp) n) (current_at d) ≡ suc (all_pages sp)
    took-cur = omega (arith, took-current lists d (all_pages sp) n take-may.0 l take-may.2 page-small)

    took-low : word_at (took_page lists d (all_pages sp) n) untaken_at ≡ suc (all_pages sp)
    took-low = omega (arith, took-untaken lists d (all_pages sp) n take-may.0 l take-may.2 page-small)

    pub took-holds : PagesAt s (grown_at s sp d n) (word_at (took_page lists d (all_pages sp) n))
    took-holds = take-keeps s sp (word_at lists) _ d n r H l e b left took-at took-cnt took-cur took-low (took-other lists d (all_pages sp) n)

    pub took-kept : (i : ℕ) → i < all_pages sp → Kept (word_at lists) (word_at (took_page lists d (all_pages sp) n)) i
    took-kept = take-kept s sp (word_at lists) _ d n r H l e b left took-at took-cnt took-cur took-low (took-other lists d (all_pages sp) n)
