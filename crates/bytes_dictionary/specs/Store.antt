-- All dictionaries of one memory, called a store; and which memory stands for which store, as facts that a program could check. Assumes nothing.
use Rattle.std.specs.Prelude.{ℕ, suc, ◌+◌, ◌≤◌, ◌<◌, ◌≡◌, ◌⊎◌, length}
use Rattle.std.proofs.Math.Option.{none, some}
use Rattle.slices.specs.Bytes.{Bytes}
use Rattle.words.specs.Words.{word_at}
use Rattle.layout.specs.declared.Sizes.{Sizes}
use Rattle.layout.specs.Sizes.{dictionaries}
use Rattle.layout.specs.Fields.{count_at, entry_at, order_at, page_at, page_of, offset_of, size_of, owner_of, used_of, position_of}
use Rattle.header.specs.Header.{HeaderOf}
use Rattle.bytes_index.specs.Entries.{Entries}
use Rattle.bytes_index.specs.Search.{HoldsEntries}
use Rattle.bytes_buffer.specs.Pages.{Space, no_space, upd, grown_at}
use Rattle.bytes_buffer.specs.Tables.{PagesAt}

-- For each dictionary: its entries, their count, the stamp of each, and its space.
pub record Store : Type 0 where
  pub entries : ℕ → Entries
  pub count : ℕ → ℕ
  pub stamp : ℕ → ℕ → ℕ
  pub space : ℕ → Space

abbrev pub empty_store : Store
empty_store = record { entries = λ d i. none; count = λ d. 0; stamp = λ d i. 0; space = no_space }

-- The store after the key was inserted into dictionary d. The key has the next number.
unfoldable pub inserted : Sizes → Store → ℕ → Bytes → ℕ → Store
inserted s st d key stamp =
    record {
      entries = upd st.entries d (upd (st.entries d) (st.count d) (some key));
      count = upd st.count d (st.count d + 1);
      stamp = upd st.stamp d (upd (st.stamp d) (st.count d) stamp);
      space = grown_at s st.space d (length key);
    }

-- The word of the page that an entry word names.
abbrev pub page_word_of : (ℕ → ℕ) → ℕ → ℕ
page_word_of W w = W (page_at (page_of w))

-- The entry of the word w lies in the used part of a page of dictionary d.
pub record Lies (W : ℕ → ℕ) (d w : ℕ) : Type 0 where
  pub owner : owner_of (page_word_of W w) ≡ suc d
  pub ends : offset_of w + size_of w ≤ used_of (page_word_of W w)

-- The entry of w lies before that of w': in an earlier page of their dictionary, or earlier in the same page.
abbrev pub LiesBefore : (ℕ → ℕ) → ℕ → ℕ → Type 0
LiesBefore W w w' = (position_of (page_word_of W w) < position_of (page_word_of W w')) ⊎ ((page_of w ≡ page_of w') × (offset_of w + size_of w ≤ offset_of w'))

-- Dictionary d of a memory has these entries, `count` of them, with these stamps.
pub record DictAt (s : Sizes) (pages lists : Bytes) (d : ℕ) (es : Entries) (count : ℕ) (stamp : ℕ → ℕ) : Type 0 where
  pub holds : HoldsEntries s d pages lists es
  pub counted : word_at lists (count_at d) ≡ count
  pub most : count ≤ s.e
  -- the numbers in use are exactly those below the count
  pub in_use : (i : ℕ) → i < count → (key : Bytes) × (es i ≡ some key)
  pub past : (i : ℕ) → count ≤ i → es i ≡ none
  -- each lies in the used part of a page of this dictionary, before the next one
  pub lies : (i : ℕ) → i < count → Lies (word_at lists) d (word_at lists (entry_at s d i))
  pub rises : (i : ℕ) → i + 1 < count → LiesBefore (word_at lists) (word_at lists (entry_at s d i)) (word_at lists (entry_at s d (i + 1)))
  pub stamped : (i : ℕ) → i < count → word_at lists (order_at s d i) ≡ stamp i
  -- each stamp is above the one before
  pub rising : (i : ℕ) → i + 1 < count → stamp i < stamp (i + 1)
  -- a number without an entry has the stamp 0, so that one memory stands for one store
  pub unstamped : (i : ℕ) → count ≤ i → stamp i ≡ 0

-- The memory stands for the store.
pub record StoreAt (s : Sizes) (st : Store) (pages lists : Bytes) : Type 0 where
  -- the format and the sizes, so that the memory passes the check of its header
  pub header : HeaderOf s (length pages) lists
  pub paged : PagesAt s st.space (word_at lists)
  pub dict : (d : ℕ) → d < dictionaries → DictAt s pages lists d (st.entries d) (st.count d) (st.stamp d)
