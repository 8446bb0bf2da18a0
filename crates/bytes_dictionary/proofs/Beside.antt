-- What an insert leaves as found: the header, the blocks' words, what lies past the sizes, and what another dictionary's insert was planned on.
-- Assumes nothing.
use Prim.Native.Nat.{ℕ, ◌+◌, ◌*◌, ◌≤◌, ◌<◌}
use mathlib.Core.Path.{◌≡◌, sym, ap, subst, ◌∙◌}
use mathlib.Core.Logic.{◌≢◌, ◌⊎◌, inl, inr}
use native.Mathlib.Omega.{arith}
use lib.ListN.{length, get_or}
use Rattle.slices.specs.Bytes.{Bytes}
use Rattle.slices.proofs.Sets.{get_d-sets-out}
use Rattle.words.specs.Words.{word_at, quad_at}
use Rattle.words.proofs.Laws.{get_d-set_word, get_d-set_quad}
use Rattle.fnv.specs.Fnv.{fnv_of}
use Rattle.layout.specs.declared.Sizes.{Sizes}
use Rattle.layout.specs.Sizes.{InRange, dictionaries, page_size, page_bytes, list_bytes}
use Rattle.layout.specs.Fields.{untaken_at, current_at, taken_at, count_at, entry_at, order_at, place_at, dict_at}
use Rattle.layout.proofs.Ranges.{in-pages}
use Rattle.layout.proofs.Places.{dict-from, dict-below}
use Rattle.bytes_index.specs.Place.{place_after}
use Rattle.bytes_index.specs.Entries.{Entries, Misses}
use Rattle.bytes_index.proofs.Place.{place-lt}
use Rattle.bytes_buffer.specs.declared.Spot.{Spot}
use Rattle.bytes_buffer.specs.declared.Spot.TheVariants.{Current, Next}
use Rattle.page_words.proofs.Words.{extended-other, extended-beyond, took-other, took-beyond}
use Rattle.bytes_entry.specs.Written.{entry_written}
use Rattle.bytes_dictionary.specs.Written.{pages_after, lists_after, HasRoom}
use Rattle.bytes_dictionary.proofs.Steps.{Off, off-below, off-behind, word_kept, place_kept}
use Rattle.bytes_dictionary.proofs.Rooms.{beyond-extended, beyond-took}

module _ (s : Sizes) (lists : Bytes) (d n at : ℕ) (stamp : ℕ) (key : Bytes) (r : InRange s) (f : list_bytes s ≤ length lists) (dl : d < dictionaries) (nl : n < s.e) (pl : at < 2 * s.e) where
  -- A word of the header, of another dictionary's pages, or of the blocks.
  abbrev pub Beside : ℕ → Type 0
  Beside j = (j < 6) ⊎ (((k : ℕ) × (k < dictionaries) × (k ≢ d) × (j ≡ current_at k)) ⊎ (dict_at s dictionaries ≤ j))

  off : (j : ℕ) → Beside j → Off s d n j
  off j (inl h) = off-below s d n j (omega arith) (omega arith)
  off j (inr (inl h)) = off-below s d n j (omega (arith, h.1, h.3)) (omega (arith, h.1, h.3))
  off j (inr (inr h)) = off-behind s d n j nl dl h

  -- It is no word of a page, nor one of dictionary d's own.
  apart : (j : ℕ) → Beside j → (page : ℕ) → page < s.n → (j ≢ 64 + page) × (j ≢ taken_at d) × (j ≢ current_at d) × (j ≢ untaken_at)
  apart j (inl h) page p = (omega arith, omega arith, omega arith, omega arith)
  apart j (inr (inl h)) page p = let q = h.2 in (omega (arith, h.1, h.3), omega (arith, h.1, h.3), omega (arith, h.3), omega (arith, h.1, h.3))
  apart j (inr (inr h)) page p = let b = dict-from s dictionaries in (omega (arith, b), omega (arith, b), omega (arith, b), omega (arith, b))

  pub words-beside : (spot : Spot) → HasRoom s (length key) spot → (j : ℕ) → Beside j → word_at (lists_after s lists d n at spot stamp key) j ≡ word_at lists j
  unfolding lists_after
  words-beside (Current page offset) h j b =
      extended-other _ page (offset + length key) j (apart j b page h.0).0 ∙ word_kept s lists d n page offset (length key) stamp at (fnv_of key) r f dl nl pl j (off j b)
  words-beside (Next page) h j b =
      let a = apart j b page h.0 in
      took-other _ d page (length key) j a.0 a.1 a.2 a.3 ∙ word_kept s lists d n page 0 (length key) stamp at (fnv_of key) r f dl nl pl j (off j b)

  -- A place of another dictionary.
  pub places-beside : (spot : Spot) → HasRoom s (length key) spot → (k j : ℕ) → k ≢ d → j < 2 * s.e
      → quad_at (lists_after s lists d n at spot stamp key) (place_at s k j) ≡ quad_at lists (place_at s k j)
  unfolding lists_after
  places-beside (Current page offset) h k j q l =
      (beyond-extended s _ page (offset + length key) h.0).quads (place_at s k j) (omega (arith, dict-from s k))
      ∙ place_kept s lists d n page offset (length key) stamp at (fnv_of key) r f dl nl pl k j l (λ e. absurd (q e))
  places-beside (Next page) h k j q l =
      (beyond-took s _ d page (length key) dl h.0).quads (place_at s k j) (omega (arith, dict-from s k))
      ∙ place_kept s lists d n page 0 (length key) stamp at (fnv_of key) r f dl nl pl k j l (λ e. absurd (q e))

  -- A byte past the dictionaries' words.
  entry-byte : (page offset i : ℕ) → 8 * dict_at s dictionaries ≤ i → get_or (entry_written s lists d n page offset (length key) stamp at (fnv_of key)) i 0 ≡ get_or lists i 0
  unfolding entry_written
  entry-byte page offset i l =
      let b = dict-below s d dictionaries dl in
      let c = dict-from s d in
      get_d-set_word _ (count_at d) _ i (λ x g. omega (arith, b, c))
      ∙ get_d-set_quad _ (place_at s d at) _ i (λ x g. omega (arith, b))
      ∙ get_d-set_word _ (order_at s d n) _ i (λ x g. omega (arith, b))
      ∙ get_d-set_word lists (entry_at s d n) _ i (λ x g. omega (arith, b))

  pub bytes-beside : (spot : Spot) → HasRoom s (length key) spot → (i : ℕ) → 8 * dict_at s dictionaries ≤ i → get_or (lists_after s lists d n at spot stamp key) i 0 ≡ get_or lists i 0
  unfolding lists_after
  bytes-beside (Current page offset) h i l =
      extended-beyond _ page (offset + length key) i (omega (arith, h.0, dict-from s dictionaries)) ∙ entry-byte page offset i l
  bytes-beside (Next page) h i l = took-beyond _ d page (length key) dl i (omega (arith, h.0, dict-from s dictionaries)) ∙ entry-byte page 0 i l

-- A byte past the pages.
pub pages-beside : (s : Sizes) (pages key : Bytes) (spot : Spot) → HasRoom s (length key) spot → (i : ℕ) → page_bytes s ≤ i
    → get_or (pages_after s pages spot key) i 0 ≡ get_or pages i 0
unfolding pages_after
pages-beside s pages key (Current page offset) h i l =
    let b = in-pages s page (offset + length key) h.0 h.1 in
    get_d-sets-out key pages (page * page_size s + offset) i (λ x g. omega arith)
pages-beside s pages key (Next page) h i l =
    let b = in-pages s page (length key) h.0 h.1 in
    get_d-sets-out key pages (page * page_size s + 0) i (λ x g. omega arith)

-- A search that ended at a free place ends there again where the places are the same.
pub misses-kept : (s : Sizes) (Q Q' : ℕ → ℕ) (es : Entries) (key : Bytes) (j : ℕ) → ((k : ℕ) → k < 2 * s.e → Q' k ≡ Q k) → Misses s Q es key j → Misses s Q' es key j
misses-kept s Q Q' es key j same M =
    let F = M.free in
    let at : (k : ℕ) → Q' (place_after (2 * s.e) (fnv_of key) k) ≡ Q (place_after (2 * s.e) (fnv_of key) k) =
    λ k. same (place_after (2 * s.e) (fnv_of key) k) (place-lt (2 * s.e) (fnv_of key) k (omega (arith, F.near))) in
    record {
      absent = M.absent;
      free = record {
        step = F.step;
        near = F.near;
        here = F.here;
        empty = ap Q' (sym F.here) ∙ at F.step ∙ ap Q F.here ∙ F.empty;
        full = λ k g. subst (λ (x : ℕ). x ≢ 0) (sym (at k)) (F.full k g);
      };
    }
