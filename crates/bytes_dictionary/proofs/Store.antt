-- The store is kept through every insert: the key has the next number, and every entry of every dictionary keeps its number and its bytes.
-- Assumes nothing.
use Prim.Native.Nat.{ℕ, ◌+◌, ◌-◌, ◌*◌, ◌^◌, ◌≤◌, ◌<◌}
use mathlib.Core.Path.{◌≡◌, sym, ap, subst, ◌∙◌}
use mathlib.Core.Logic.{inl, inr}
use mathlib.Core.Bool.{true, false}
use mathlib.Core.Option.{some}
use native.Mathlib.Omega.{arith}
use native.Mathlib.Decide.{ℕ_discrete, dec_lt}
use lib.ListN.{length}
use lib.Seq.{sets, length-sets}
use Rattle.std.specs.Prelude.{Result, Ok, Err}
use Rattle.slices.specs.Bytes.{Bytes}
use Rattle.refusals.specs.declared.Refusal.{Refusal}
use Rattle.refusals.specs.declared.Refusal.TheVariants.{NoPage}
use Rattle.slices.proofs.Tests.{Split, split}
use Rattle.words.specs.Words.{word_at, quad_at}
use Rattle.fnv.specs.Fnv.{fnv_of}
use Rattle.layout.specs.declared.Sizes.{Sizes}
use Rattle.layout.specs.Sizes.{InRange, dictionaries, page_size, page_bytes, list_bytes}
use Rattle.layout.specs.Fields.{untaken_at, place_at}
use Rattle.layout.proofs.Ranges.{page-size}
use Rattle.bytes_index.specs.Entries.{Entries, Misses}
use Rattle.bytes_index.proofs.Index.{place-fits}
use Rattle.bytes_buffer.specs.declared.Spot.{Spot}
use Rattle.bytes_buffer.specs.declared.Spot.TheVariants.{Current, Next}
use Rattle.bytes_buffer.specs.Pages.{fits, upd, grown_at, all_pages}
use Rattle.page_words.specs.Written.{extended_page, took_page}
use Rattle.bytes_buffer.specs.Spots.{next_of, current_of, spot_in}
use Rattle.bytes_buffer.proofs.Pages.{size_is, fits-facts}
use Rattle.bytes_buffer.specs.Tables.{PagesAt}
use Rattle.bytes_buffer.proofs.Spots.{next-is, next-none}
use Rattle.page_words.proofs.Words.{length-extended, length-took}
use Rattle.bytes_buffer.proofs.Tables.{SameTables, framed, current-below}
use Rattle.bytes_buffer.proofs.Plans.{plan-fit, plan-unfit}
use Rattle.bytes_buffer.proofs.Commits.{extended-holds, took-holds}
use Rattle.bytes_entry.specs.Written.{entry_written}
use Rattle.bytes_dictionary.specs.Written.{pages_after, lists_after}
use Rattle.bytes_dictionary.specs.Store.{Store, inserted, DictAt, StoreAt}
use Rattle.bytes_dictionary.specs.Ready.{Ready}
use Rattle.bytes_dictionary.proofs.Updates.{upd_same, upd_other, upd-each, more-old}
use Rattle.bytes_dictionary.proofs.Steps.{Step, length-written, words-written, tables-kept}
use Rattle.bytes_dictionary.proofs.Rooms.{Placed, placed-current, placed-next, placed_same, beyond-extended, beyond-took, step-beyond}
use Rattle.bytes_dictionary.proofs.Grow.{dict-other, dict-own}
use Rattle.bytes_dictionary.proofs.Beside.{words-beside}
use Rattle.bytes_dictionary.proofs.Header.{header-kept}

-- ---- lengths

pub length-pages : (s : Sizes) (pages : Bytes) (spot : Spot) (key : Bytes) → length (pages_after s pages spot key) ≡ length pages
unfolding pages_after
length-pages s pages (Current page offset) key = length-sets pages (page * page_size s + offset) key
length-pages s pages (Next page) key = length-sets pages (page * page_size s + 0) key

pub length-lists : (s : Sizes) (lists : Bytes) (d n place : ℕ) (spot : Spot) (stamp : ℕ) (key : Bytes) → length (lists_after s lists d n place spot stamp key) ≡ length lists
unfolding lists_after
length-lists s lists d n place (Current page offset) stamp key = length-extended _ page (offset + length key) ∙ length-written s lists d n page offset (length key) stamp place (fnv_of key)
length-lists s lists d n place (Next page) stamp key = length-took _ d page (length key) ∙ length-written s lists d n page 0 (length key) stamp place (fnv_of key)

-- ---- one insert

-- A dictionary under other names for what it holds.
dict-as : (s : Sizes) (pages lists : Bytes) (d : ℕ) (es es' : Entries) (c c' : ℕ) (t t' : ℕ → ℕ) → es ≡ es' → c ≡ c' → t ≡ t'
    → DictAt s pages lists d es c t → DictAt s pages lists d es' c' t'
dict-as s pages lists d es es' c c' t t' p q r D =
    subst (λ (x : Entries). DictAt s pages lists d x c' t') p
    (subst (λ (x : ℕ). DictAt s pages lists d es x t') q (subst (λ (x : ℕ → ℕ). DictAt s pages lists d es c x) r D))

module _ (s : Sizes) (st : Store) (pages lists : Bytes) (d place stamp : ℕ) (key : Bytes) (ranged : InRange s)
    (pages-fit : page_bytes s ≤ length pages) (lists-fit : list_bytes s ≤ length lists) (known : d < dictionaries) (S : StoreAt s st pages lists)
    (room : st.count d < s.e) (short : length key ≤ page_size s) (stamp-fits : stamp < 2 ^ 64)
    (later : (i : ℕ) → i + 1 ≡ st.count d → st.stamp d i < stamp) (pl : place < 2 * s.e)
    (M : Misses s (λ j. quad_at lists (place_at s d j)) (st.entries d) key place) where
  -- From what the words are after it, wherever the entry lies.
  finish : (page offset : ℕ) (lists' : Bytes) → Step s lists lists' d (st.count d) page offset (length key) stamp place (fnv_of key)
      → Placed s (word_at lists) (word_at lists') d page offset (length key) → PagesAt s (grown_at s st.space d (length key)) (word_at lists')
      → length lists' ≡ length lists → ((j : ℕ) → j < 6 → word_at lists' j ≡ word_at lists j)
      → StoreAt s (inserted s st d key stamp) (sets pages (page * page_size s + offset) key) lists'
  unfolding inserted
  finish page offset lists' T P H l w =
      record {
        header = header-kept s (length pages) _ lists lists' (rw (length-sets pages (page * page_size s + offset) key) pages-fit) (rw l lists-fit) w S.header;
        paged = H;
        dict = λ k kl. go k kl (ℕ_discrete k d);
      }
    where
      go : (k : ℕ) → k < dictionaries → Dec (k ≡ d)
          → DictAt s (sets pages (page * page_size s + offset) key) lists' k ((inserted s st d key stamp).entries k) ((inserted s st d key stamp).count k)
          ((inserted s st d key stamp).stamp k)
      go k kl (yes q) =
          subst
          (λ (x : ℕ). DictAt s (sets pages (page * page_size s + offset) key) lists' x ((inserted s st d key stamp).entries x) ((inserted s st d key stamp).count x)
          ((inserted s st d key stamp).stamp x)) (sym q)
          (dict-as s _ lists' d _ _ _ _ _ _ (sym (upd_same st.entries d _)) (sym (upd_same st.count d _)) (sym (upd_same st.stamp d _))
          (dict-own s ranged pages lists lists' d (st.count d) page offset stamp place key known room pages-fit T P (st.entries d) (st.stamp d)
          (S.dict d known) later M))
      go k kl (no q) =
          dict-as s _ lists' k _ _ _ _ _ _ (sym (upd_other st.entries d _ k q)) (sym (upd_other st.count d _ k q)) (sym (upd_other st.stamp d _ k q))
          (dict-other s ranged pages lists lists' d (st.count d) page offset stamp place key known room pages-fit T P k (st.entries k) (st.count k) (st.stamp k)
          kl q (S.dict k kl))

  -- The lists with the entry's own words.
  module _ (page offset : ℕ) (p : page < s.n) (i : offset + length key ≤ page_size s) where
    lists₁ : Bytes
    lists₁ = entry_written s lists d (st.count d) page offset (length key) stamp place (fnv_of key)

    step₁ : Step s lists lists₁ d (st.count d) page offset (length key) stamp place (fnv_of key)
    unfolding lists₁
    step₁ =
        words-written s lists d (st.count d) page offset (length key) stamp place (fnv_of key) ranged lists-fit known room pl
        (omega (arith, page-size s ranged, ranged.n)) stamp-fits
        (place-fits (st.count d) key (omega (arith, room, ranged.e)))

    tables₁ : SameTables s (word_at lists) (word_at lists₁)
    unfolding lists₁
    tables₁ = tables-kept s lists d (st.count d) page offset (length key) stamp place (fnv_of key) ranged lists-fit known room pl

    fits₁ : list_bytes s ≤ length lists₁
    unfolding lists₁
    fits₁ = subst (λ (x : ℕ). list_bytes s ≤ x) (sym (length-written s lists d (st.count d) page offset (length key) stamp place (fnv_of key))) lists-fit

    pages₁ : PagesAt s st.space (word_at lists₁)
    pages₁ = framed s st.space (word_at lists) (word_at lists₁) S.paged tables₁

  -- Behind what the current page has.
  store-current : fits s.p (st.space d) (length key) ≡ true
      → let spot = Current (current_of (word_at lists) d) (st.space d).used in
      StoreAt s (inserted s st d key stamp) (pages_after s pages spot key) (lists_after s lists d (st.count d) place spot stamp key)
  unfolding pages_after lists_after lists₁
  store-current e =
      let x = fits-facts s.p (st.space d) (length key) e in
      let g : ℕ = current_of (word_at lists) d in
      let o : ℕ = (st.space d).used in
      let p : g < s.n = omega (arith, current-below s st.space (word_at lists) d S.paged known x.0, S.paged.room) in
      let i : o + length key ≤ page_size s = omega (arith, x.1, size_is s) in
      let L : Bytes = lists₁ g o p i in
      let A = tables₁ g o p i in
      let c : current_of (word_at L) d ≡ g = ap (λ (y : ℕ). y - 1) (A.current d known) in
      let H : PagesAt s (grown_at s st.space d (length key)) (word_at (extended_page L g (o + length key))) =
      subst (λ (y : ℕ). PagesAt s (grown_at s st.space d (length key)) (word_at (extended_page L y (o + length key)))) c
      (extended-holds s st.space L d (length key) ranged (fits₁ g o p i) (pages₁ g o p i) known e) in
      let P : Placed s (word_at L) (word_at (extended_page L g (o + length key))) d g o (length key) =
      subst (λ (y : ℕ). Placed s (word_at L) (word_at (extended_page L y (o + length key))) d y o (length key)) c
      (placed-current s st.space L d (length key) ranged (fits₁ g o p i) (pages₁ g o p i) known e) in
      finish g o (extended_page L g (o + length key))
      (step-beyond s lists L _ d (st.count d) g o (length key) stamp place (fnv_of key) known (beyond-extended s L g (o + length key) p) (step₁ g o p i))
      (placed_same s (word_at lists) (word_at L) _ d g o (length key) A P)
      H
      (length-lists s lists d (st.count d) place (Current g o) stamp key)
      (λ j h. words-beside s lists d (st.count d) place stamp key ranged lists-fit known room pl (Current g o) (p, i) j (inl h))

  -- At the front of the lowest untaken page.
  store-next : fits s.p (st.space d) (length key) ≡ false → all_pages st.space < s.n
      → let spot = Next (all_pages st.space) in
      StoreAt s (inserted s st d key stamp) (pages_after s pages spot key) (lists_after s lists d (st.count d) place spot stamp key)
  unfolding pages_after lists_after lists₁
  store-next e p =
      let g : ℕ = all_pages st.space in
      let i : 0 + length key ≤ page_size s = omega arith in
      let L : Bytes = lists₁ g 0 p i in
      finish g 0 (took_page L d g (length key))
      (step-beyond s lists L _ d (st.count d) g 0 (length key) stamp place (fnv_of key) known (beyond-took s L d g (length key) known p) (step₁ g 0 p i))
      (placed_same s (word_at lists) (word_at L) _ d g 0 (length key) (tables₁ g 0 p i)
      (placed-next s st.space L d (length key) ranged (fits₁ g 0 p i) (pages₁ g 0 p i) known e short p))
      (took-holds s st.space L d (length key) ranged (fits₁ g 0 p i) (pages₁ g 0 p i) known e short p)
      (length-lists s lists d (st.count d) place (Next g) stamp key)
      (λ j h. words-beside s lists d (st.count d) place stamp key ranged lists-fit known room pl (Next g) (p, short) j (inl h))

  pub store-more : (spot : Spot) → spot_in s (word_at lists) d (word_at lists untaken_at) (length key) ≡ Ok spot
      → StoreAt s (inserted s st d key stamp) (pages_after s pages spot key) (lists_after s lists d (st.count d) place spot stamp key)
  store-more spot q = go (split (fits s.p (st.space d) (length key))) (dec_lt (all_pages st.space) s.n)
    where
      W : ℕ → ℕ
      W = word_at lists

      at-spot : {x : Spot} → ◌≡◌ {A = Result Spot Refusal} (Ok spot) (Ok x)
          → StoreAt s (inserted s st d key stamp) (pages_after s pages x key) (lists_after s lists d (st.count d) place x stamp key)
          → StoreAt s (inserted s st d key stamp) (pages_after s pages spot key) (lists_after s lists d (st.count d) place spot stamp key)
      at-spot {x} e h =
          let f : spot ≡ x = cc in
          subst (λ (y : Spot). StoreAt s (inserted s st d key stamp) (pages_after s pages y key) (lists_after s lists d (st.count d) place y stamp key)) (sym f) h

      low : W untaken_at ≡ all_pages st.space
      low = S.paged.lowest

      go : Split (fits s.p (st.space d) (length key)) → Dec (all_pages st.space < s.n)
          → StoreAt s (inserted s st d key stamp) (pages_after s pages spot key) (lists_after s lists d (st.count d) place spot stamp key)
      go (inl e) h = at-spot (sym q ∙ plan-fit s st.space W d (W untaken_at) (length key) S.paged known e) (store-current e)
      go (inr e) (yes h) =
          at-spot (sym q ∙ plan-unfit s st.space W d (W untaken_at) (length key) S.paged known e ∙ ap (next_of s) low ∙ next-is s (all_pages st.space) h) (store-next e h)
      go (inr e) (no h) =
          let f : ◌≡◌ {A = Result Spot Refusal} (Ok spot) (Err NoPage) =
          sym q ∙ plan-unfit s st.space W d (W untaken_at) (length key) S.paged known e ∙ ap (next_of s) low ∙ next-none s (all_pages st.space) (omega arith) in
          let z : ◌≡◌ {A = ℕ} 0 1 = cc in
          absurd (omega arith)

-- ---- every insert

pub store-insert : (s : Sizes) (st : Store) (pages lists : Bytes) (d place : ℕ) (spot : Spot) (stamp : ℕ) (key : Bytes)
    → InRange s → page_bytes s ≤ length pages → list_bytes s ≤ length lists → StoreAt s st pages lists → Ready s st pages lists d place spot stamp key
    → StoreAt s (inserted s st d key stamp) (pages_after s pages spot key) (lists_after s lists d (st.count d) place spot stamp key)
store-insert s st pages lists d place spot stamp key r f g S R =
    store-more s st pages lists d place stamp key r f g R.known S R.room R.short R.stamp-fits R.later
    R.searched.range
    (R.searched.right (st.entries d) (S.dict d R.known).holds)
    spot
    R.planned

-- ---- numbers

-- The key has the next number of its dictionary.
pub new-entry : (s : Sizes) (st : Store) (d : ℕ) (key : Bytes) (stamp : ℕ) → (inserted s st d key stamp).entries d (st.count d) ≡ some key
unfolding inserted
new-entry s st d key stamp = ap (λ (f : Entries). f (st.count d)) (upd_same st.entries d _) ∙ upd_same (st.entries d) (st.count d) (some key)

-- An entry keeps its number, and its bytes, through every insert.
pub old-entry : (s : Sizes) (st : Store) (pages lists : Bytes) (d : ℕ) (key : Bytes) (stamp : ℕ) → d < dictionaries → StoreAt s st pages lists
    → (k i : ℕ) (x : Bytes) → st.entries k i ≡ some x → (inserted s st d key stamp).entries k i ≡ some x
unfolding inserted
old-entry s st pages lists d key stamp dl S k i x u =
    upd-each (λ k f. st.entries k i ≡ some x → f i ≡ some x) st.entries d (upd (st.entries d) (st.count d) (some key)) k
    (λ q v. v)
    (λ q v.
    more-old (st.entries d) (st.count d) key ((S.dict d dl).past (st.count d) (omega arith)) i x (ap (λ (y : ℕ). st.entries y i) (sym q) ∙ v))
    u
