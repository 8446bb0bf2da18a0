-- The words of `lists` after a page was extended or taken, one by one. Assumes nothing.
use Prim.Native.Nat.{ℕ, ◌+◌, ◌*◌, ◌^◌, ◌≤◌, ◌<◌}
use mathlib.Core.Path.{◌≡◌, ◌∙◌}
use mathlib.Core.Logic.{◌≢◌}
use native.Mathlib.Omega.{arith}
use lib.ListN.{length, get_or}
use Rattle.slices.specs.Bytes.{Bytes}
use Rattle.words.specs.Words.{word_at}
use Rattle.words.proofs.Laws.{length-set_word, get_d-set_word, word-set-same, word-set-other}
use Rattle.layout.specs.Sizes.{dictionaries}
use Rattle.layout.specs.Fields.{untaken_at, current_at, taken_at, page_at, page_word}
use Rattle.page_words.specs.Written.{with_used, extended_page, pages_of, took_page}

-- ---- the current page's used part grows

module _ (lists : Bytes) (page used : ℕ) where
  pub length-extended : length (extended_page lists page used) ≡ length lists
  unfolding extended_page
  length-extended = length-set_word lists (page_at page) _

  pub extended-same : 8 * page_at page + 8 ≤ length lists → used < 2097152 → word_at lists (page_at page) < 2 ^ 64
      → word_at (extended_page lists page used) (page_at page) ≡ with_used (word_at lists (page_at page)) used
  unfolding extended_page
  extended-same f u b = word-set-same lists (page_at page) _ f (omega arith)

  pub extended-other : (j : ℕ) → j ≢ page_at page → word_at (extended_page lists page used) j ≡ word_at lists j
  unfolding extended_page
  extended-other j o = word-set-other lists (page_at page) j _ o

  pub extended-beyond : (k : ℕ) → 8 * page_at page + 8 ≤ k → get_or (extended_page lists page used) k 0 ≡ get_or lists k 0
  unfolding extended_page
  extended-beyond k h = get_d-set_word lists (page_at page) _ k (λ i g. omega arith)

-- ---- a page is taken

module _ (lists : Bytes) (d page used : ℕ) where
  pub length-took : length (took_page lists d page used) ≡ length lists
  unfolding took_page
  length-took = simp length-set_word

  pub took-other : (j : ℕ) → j ≢ page_at page → j ≢ taken_at d → j ≢ current_at d → j ≢ untaken_at → word_at (took_page lists d page used) j ≡ word_at lists j
  unfolding took_page
  took-other j a b c e = rw (word-set-other _ untaken_at j _ e, word-set-other _ (current_at d) j _ c, word-set-other _ (taken_at d) j _ b, word-set-other _ (page_at page) j _ a)

  pub took-beyond : d < dictionaries → (k : ℕ) → 8 * page_at page + 8 ≤ k → get_or (took_page lists d page used) k 0 ≡ get_or lists k 0
  unfolding took_page
  took-beyond l k h =
      get_d-set_word _ untaken_at _ k (λ i g. omega arith)
      ∙ get_d-set_word _ (current_at d) _ k (λ i g. omega arith)
      ∙ get_d-set_word _ (taken_at d) _ k (λ i g. omega arith)
      ∙ get_d-set_word lists (page_at page) _ k (λ i g. omega arith)

  module _ (f : 8 * page_at page + 8 ≤ length lists) (l : d < dictionaries) (u : used < 2097152) (g : page < 1024) where
    pub took-untaken : word_at (took_page lists d page used) untaken_at ≡ page + 1
    unfolding took_page
    took-untaken = word-set-same _ untaken_at _ (simp length-set_word (omega arith)) (omega arith)

    pub took-current : word_at (took_page lists d page used) (current_at d) ≡ page + 1
    unfolding took_page
    took-current =
        word-set-other _ untaken_at (current_at d) _ (omega arith)
        ∙ word-set-same _ (current_at d) _ (simp length-set_word (omega arith)) (omega arith)

    pub took-count : word_at (took_page lists d page used) (taken_at d) ≡ pages_of lists d + 1
    unfolding took_page
    took-count =
        word-set-other _ untaken_at (taken_at d) _ (omega arith)
        ∙ word-set-other _ (current_at d) (taken_at d) _ (omega arith)
        ∙ word-set-same _ (taken_at d) _ (simp length-set_word (omega arith)) (omega arith)

    pub took-page : word_at (took_page lists d page used) (page_at page) ≡ page_word (d + 1) used (pages_of lists d)
    unfolding took_page
    took-page =
        word-set-other _ untaken_at (page_at page) _ (omega arith)
        ∙ word-set-other _ (current_at d) (page_at page) _ (omega arith)
        ∙ word-set-other _ (taken_at d) (page_at page) _ (omega arith)
        ∙ word-set-same lists (page_at page) _ f (omega arith)
