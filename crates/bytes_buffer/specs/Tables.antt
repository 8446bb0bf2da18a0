-- Which words hold which spaces, as facts that a program could check. W gives the words by their index. Assumes nothing.
use Rattle.std.specs.Prelude.{ℕ, zero, suc, ◌<◌, ◌≤◌, ◌≡◌}
use Rattle.layout.specs.declared.Sizes.{Sizes}
use Rattle.layout.specs.Sizes.{dictionaries, page_size}
use Rattle.layout.specs.Fields.{untaken_at, current_at, taken_at, page_at, owner_of, used_of, position_of}
use Rattle.bytes_buffer.specs.Pages.{Space, all_pages}
use Rattle.bytes_buffer.specs.Spots.{current_of}

-- A taken page's word: a dictionary owns the page, and its used bytes are at most the page's size.
pub record Owned (s : Sizes) (w : ℕ) : Type 0 where
  pub least : 1 ≤ owner_of w
  pub most : owner_of w ≤ dictionaries
  pub inside : used_of w ≤ page_size s

-- The current page of a dictionary d that has pages: it is the last of them.
pub record CurrentPage (sp : ℕ → Space) (W : ℕ → ℕ) (d : ℕ) : Type 0 where
  pub some : 1 ≤ W (current_at d)
  pub below : W (current_at d) ≤ all_pages sp
  pub owner : owner_of (W (page_at (current_of W d))) ≡ suc d
  pub used : used_of (W (page_at (current_of W d))) ≡ (sp d).used
  pub position : suc (position_of (W (page_at (current_of W d)))) ≡ (sp d).taken

pub record PagesAt (s : Sizes) (sp : ℕ → Space) (W : ℕ → ℕ) : Type 0 where
  -- all pages from one number up are untaken, and their words are 0
  pub lowest : W untaken_at ≡ all_pages sp
  pub room : all_pages sp ≤ s.n
  pub owned : (i : ℕ) → i < all_pages sp → Owned s (W (page_at i))
  pub free : (i : ℕ) → all_pages sp ≤ i → i < s.n → W (page_at i) ≡ zero
  -- each dictionary's own words
  pub count : (d : ℕ) → d < dictionaries → W (taken_at d) ≡ (sp d).taken
  pub without : (d : ℕ) → d < dictionaries → (sp d).taken ≡ zero → (W (current_at d) ≡ zero) × ((sp d).used ≡ zero)
  pub current : (d : ℕ) → d < dictionaries → 0 < (sp d).taken → CurrentPage sp W d
  -- the positions of its pages are below their number, and no two are the same
  pub order : (d i : ℕ) → d < dictionaries → i < all_pages sp → owner_of (W (page_at i)) ≡ suc d → position_of (W (page_at i)) < (sp d).taken
  pub distinct : (d i j : ℕ) → d < dictionaries → i < all_pages sp → j < all_pages sp → owner_of (W (page_at i)) ≡ suc d → owner_of (W (page_at j)) ≡ suc d
      → position_of (W (page_at i)) ≡ position_of (W (page_at j))
      → i ≡ j
