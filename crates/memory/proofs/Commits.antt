-- The writes of an add keep the store and the blocks: memory that stood for both stands for both after them. Assumes nothing.
use Prim.Native.Nat.{ℕ, ◌+◌, ◌*◌, ◌^◌, ◌≤◌, ◌<◌}
use mathlib.Core.Path.{◌≡◌, refl, sym, ap, subst, ◌∙◌}
use mathlib.Core.Logic.{◌≢◌, inl, inr}
use mathlib.Core.Option.{some}
use native.Mathlib.Omega.{arith}
use borrow.Author.Tests.{ltb-false, leb-true, eqb-false}
use lib.Dec.{eqb, leb, ltb}
use lib.ListN.{length}
use Rattle.std.specs.Prelude.{Some, Ok}
use Rattle.slices.specs.Bytes.{Bytes}
use Rattle.slices.proofs.Tests.{Split, split}
use Rattle.words.specs.Words.{word_at, quad_at}
use Rattle.layout.specs.declared.Sizes.{Sizes}
use Rattle.layout.specs.Sizes.{InRange, kinds, dictionaries, page_size, list_bytes}
use Rattle.layout.specs.Fields.{untaken_at, current_at, page_at, place_at, used_of}
use Rattle.layout.proofs.Ranges.{ranged}
use Rattle.layout.proofs.Places.{dict-end, blocks_from}
use Rattle.bytes_index.specs.Entries.{Entries, Misses}
use Rattle.bytes_index.specs.Search.{Searched}
use Rattle.bytes_index.specs.declared.Probe.TheVariants.{Free}
use Rattle.bytes_buffer.specs.declared.Spot.{Spot}
use Rattle.bytes_buffer.specs.declared.Spot.TheVariants.{Current, Next}
use Rattle.bytes_buffer.specs.Pages.{grown_at, all_pages}
use Rattle.bytes_buffer.specs.Spots.{spot_of, current_of, spot_in, InPages, untaken_after}
use Rattle.bytes_buffer.proofs.Pages.{grown-other}
use Rattle.bytes_buffer.proofs.Spots.{next-in}
use Rattle.bytes_buffer.proofs.Plans.{current-pages, next-pages, spot-kept}
use Rattle.bytes_dictionary.specs.Written.{pages_after, lists_after, HasRoom}
use Rattle.bytes_dictionary.specs.Store.{Store, inserted, StoreAt}
use Rattle.bytes_dictionary.specs.Ready.{Ready}
use Rattle.bytes_dictionary.proofs.Updates.{upd_other}
use Rattle.bytes_dictionary.proofs.Written.{plan-room}
use Rattle.bytes_dictionary.proofs.Beside.{words-beside, places-beside, misses-kept}
use Rattle.bytes_dictionary.proofs.Agree.{store-agree}
use Rattle.bytes_dictionary.proofs.Store.{store-more}
use Rattle.blocks.specs.Blocks.{Blocks, pick, took}
use Rattle.blocks.specs.Tables.{BlocksAt}
use Rattle.blocks.specs.Answers.{block_written}
use Rattle.blocks.proofs.Steps.{picked}
use Rattle.blocks.proofs.Pigeons.{picked-below}
use Rattle.blocks.proofs.Tables.{took-blocks, kept-blocks}
use Rattle.blocks.proofs.Written.{length-written, byte-written}

-- ---- the plan's spot has room, in any memory

spot_in-pages : (s : Sizes) (c w u n : ℕ) → InPages s u n (spot_of s c w u n)
unfolding spot_of
spot_in-pages s c w u n = go (split (eqb c 0)) (split (ltb s.n c)) (split (ltb (page_size s) (used_of w))) (split (leb (used_of w + n) (page_size s)))
  where
    go : Split (eqb c 0) → Split (ltb s.n c) → Split (ltb (page_size s) (used_of w)) → Split (leb (used_of w + n) (page_size s)) → InPages s u n (spot_of s c w u n)
    go (inl p) q o f = rw p (next-in s u n)
    go (inr p) (inl q) o f = rw (p, q) (inr refl)
    go (inr p) (inr q) (inl o) f = rw (p, q, o) (inr refl)
    go (inr p) (inr q) (inr o) (inl f) =
        rw (p, q, o, f)
        (let y : c ≤ s.n = ltb-false s.n c q in let z : c ≢ 0 = eqb-false c 0 p in omega arith, leb-true (used_of w + n) (page_size s) f)
    go (inr p) (inr q) (inr o) (inr f) = rw (p, q, o, f) (next-in s u n)

-- With any lowest untaken page: that of the second of two entries is planned before the first is written.
pub planned-room : (s : Sizes) (W : ℕ → ℕ) (d u n : ℕ) (spot : Spot) → n ≤ page_size s → spot_in s W d u n ≡ Ok spot → HasRoom s n spot
unfolding spot_in
planned-room s W d u n spot l e = plan-room s u n spot l (subst (InPages s u n) e (spot_in-pages s (W (current_at d)) (W (page_at (current_of W d))) u n))

pub insert-room : (s : Sizes) (store : Store) (pages lists : Bytes) (d place : ℕ) (spot : Spot) (t : ℕ) (key : Bytes) → Ready s store pages lists d place spot t key
    → HasRoom s (length key) spot
insert-room s store pages lists d place spot t key R = planned-room s (word_at lists) d (word_at lists untaken_at) (length key) spot R.short R.planned

-- ---- what an insert leaves of another dictionary

module _ (s : Sizes) (store : Store) (d : ℕ) (key : Bytes) (t j : ℕ) (q : j ≢ d) where
  pub entries-other : (inserted s store d key t).entries j ≡ store.entries j
  unfolding inserted
  entries-other = upd_other store.entries d _ j q

  pub count-other : (inserted s store d key t).count j ≡ store.count j
  unfolding inserted
  count-other = upd_other store.count d _ j q

  pub stamp-other : (inserted s store d key t).stamp j ≡ store.stamp j
  unfolding inserted
  stamp-other = upd_other store.stamp d _ j q

  pub space-other : (inserted s store d key t).space j ≡ store.space j
  unfolding inserted
  space-other = grown-other s store.space d (length key) j q

-- ---- a block's words

-- They lie behind the dictionaries' ones.
commit-block : (s : Sizes) (store : Store) (b : Blocks) (pages lists : Bytes) (k g : ℕ) → StoreAt s store pages lists → BlocksAt s b lists → k < kinds → pick s b k ≡ some g
    → StoreAt s store pages (block_written s lists k (b.next k) g) × BlocksAt s (took s.w b k g) (block_written s lists k (b.next k) g)
commit-block s store b pages lists k g S T h e =
    let p = (picked s b k g T.sound T.below e).1 in
    let q = picked-below s b k g T.sound T.below e in (
      store-agree s pages pages lists (block_written s lists k (b.next k) g)
          (λ i l. refl)
          (λ i l. byte-written s lists k (b.next k) g h q p i (inl (omega (arith, dict-end s, blocks_from s 0))))
          store
          S.header.pages-fit
          (rw (length-written s lists k (b.next k) g) S.header.lists-fit)
          S,
      took-blocks s b lists k g (ranged s S.header.ranged) S.header.lists-fit T h e,
    )

-- ---- one entry

-- From what is known of the store's own entries.
module _ (s : Sizes) (store : Store) (pages lists : Bytes) (d place : ℕ) (spot : Spot) (t : ℕ) (key : Bytes) (S : StoreAt s store pages lists)
    (dl : d < dictionaries) (room : store.count d < s.e) (short : length key ≤ page_size s) (stamp-fits : t < 2 ^ 64)
    (later : (i : ℕ) → i + 1 ≡ store.count d → store.stamp d i < t) (pl : place < 2 * s.e) (M : Misses s (λ j. quad_at lists (place_at s d j)) (store.entries d) key place)
    (planned : spot_in s (word_at lists) d (word_at lists untaken_at) (length key) ≡ Ok spot) where
  commit-entry : (b : Blocks) → BlocksAt s b lists
      → let lists₁ = lists_after s lists d (store.count d) place spot t key in
      StoreAt s (inserted s store d key t) (pages_after s pages spot key) lists₁ × BlocksAt s b lists₁
  commit-entry b T =
      let r : InRange s = ranged s S.header.ranged in
      let f : list_bytes s ≤ length lists = S.header.lists-fit in (
        store-more s store pages lists d place t key r S.header.pages-fit f dl S room short stamp-fits later pl M spot planned,
        kept-blocks s b lists _
            (λ i h.
            words-beside s lists d (store.count d) place t key r f dl room pl spot (planned-room s (word_at lists) d (word_at lists untaken_at) (length key) spot short planned) i
            (inr (inr (omega (arith, h.0, dict-end s, blocks_from s 0)))))
            T,
      )

module _ (s : Sizes) (store : Store) (b : Blocks) (pages lists : Bytes) (S : StoreAt s store pages lists) (T : BlocksAt s b lists) where
  insert-commit : (d place : ℕ) (spot : Spot) (t : ℕ) (key : Bytes) → Ready s store pages lists d place spot t key
      → let lists₁ = lists_after s lists d (store.count d) place spot t key in
      StoreAt s (inserted s store d key t) (pages_after s pages spot key) lists₁ × BlocksAt s b lists₁
  insert-commit d place spot t key R =
      commit-entry s store pages lists d place spot t key S R.known R.room R.short R.stamp-fits R.later R.searched.range
      (R.searched.right (store.entries d) (S.dict d R.known).holds)
      R.planned
      b
      T

  pub commit-one : (d place : ℕ) (spot : Spot) (t : ℕ) (key : Bytes) (k g : ℕ) → Ready s store pages lists d place spot t key → k < kinds → pick s b k ≡ some g
      → let pages' = pages_after s pages spot key in
      let lists' = block_written s (lists_after s lists d (store.count d) place spot t key) k (b.next k) g in
      StoreAt s (inserted s store d key t) pages' lists' × BlocksAt s (took s.w b k g) lists'
  commit-one d place spot t key k g R h e =
      let A = insert-commit d place spot t key R in
      commit-block s (inserted s store d key t) b (pages_after s pages spot key) (lists_after s lists d (store.count d) place spot t key) k g A.0 A.1 h e

  -- ---- a head, and then the main entry, whose search and plan were made before the head was written

  module _ (dh hplace : ℕ) (hspot : Spot) (t : ℕ) (head : Bytes) (R : Ready s store pages lists dh hplace hspot t head) where
    after-head : Bytes
    after-head = lists_after s lists dh (store.count dh) hplace hspot t head

    -- The plan for the main entry took the head's page into account.
    untaken-after : word_at after-head untaken_at ≡ untaken_after (word_at lists untaken_at) (Some hspot)
    unfolding after-head inserted
    untaken-after = (insert-commit dh hplace hspot t head R).0.paged.lowest ∙ go hspot R.planned
      where
        go : (x : Spot) → spot_in s (word_at lists) dh (word_at lists untaken_at) (length head) ≡ Ok x
            → all_pages (grown_at s store.space dh (length head)) ≡ untaken_after (word_at lists untaken_at) (Some x)
        go (Current page offset) e =
            current-pages s store.space store.space (word_at lists) dh (word_at lists untaken_at) (length head) S.paged R.known refl (sym S.paged.lowest) page offset e
        go (Next page) e =
            let a = next-pages s store.space store.space (word_at lists) dh (word_at lists untaken_at) (length head) S.paged R.known refl (sym S.paged.lowest) page e in
            omega (arith, a)

    module _ (d : ℕ) (q : dh ≢ d) (dl : d < dictionaries) where
      other : d ≢ dh
      other e = q (sym e)

      spot-after : (n : ℕ) → spot_in s (word_at after-head) d (word_at after-head untaken_at) n ≡ spot_in s (word_at lists) d (untaken_after (word_at lists untaken_at) (Some hspot)) n
      unfolding after-head
      spot-after n =
          ap (λ (u : ℕ). spot_in s (word_at after-head) d u n) untaken-after
          ∙ spot-kept s store.space (inserted s store dh head t).space (word_at lists) (word_at after-head) d (untaken_after (word_at lists untaken_at) (Some hspot)) n S.paged
          (insert-commit dh hplace hspot t head R).0.paged
          dl
          (space-other s store dh head t d other)
          (words-beside s lists dh (store.count dh) hplace t head (ranged s S.header.ranged) S.header.lists-fit R.known R.room R.searched.range hspot
          (insert-room s store pages lists dh hplace hspot t head R)
          (current_at d)
          (inr (inl (d, dl, other, refl))))

      misses-after : (place : ℕ) (key : Bytes) → Searched s d pages lists key (Ok (Free place))
          → Misses s (λ j. quad_at after-head (place_at s d j)) ((inserted s store dh head t).entries d) key place
      unfolding after-head
      misses-after place key F =
          subst (λ (es : Entries). Misses s (λ j. quad_at after-head (place_at s d j)) es key place) (sym (entries-other s store dh head t d other))
          (misses-kept s (λ j. quad_at lists (place_at s d j)) (λ j. quad_at after-head (place_at s d j)) (store.entries d) key place
          (λ j l.
          places-beside s lists dh (store.count dh) hplace t head (ranged s S.header.ranged) S.header.lists-fit R.known R.room R.searched.range hspot
          (insert-room s store pages lists dh hplace hspot t head R)
          d
          j
          other
          l)
          (F.right (store.entries d) (S.dict d dl).holds))

  pub commit-both : (dh hplace : ℕ) (hspot : Spot) (head : Bytes) (d place : ℕ) (spot : Spot) (key : Bytes) (t k g : ℕ) → dh ≢ d
      → Ready s store pages lists dh hplace hspot t head
      → d < dictionaries → Searched s d pages lists key (Ok (Free place)) → store.count d < s.e → length key ≤ page_size s
      → spot_in s (word_at lists) d (untaken_after (word_at lists untaken_at) (Some hspot)) (length key) ≡ Ok spot
      → ((i : ℕ) → i + 1 ≡ store.count d → store.stamp d i < t)
      → k < kinds → pick s b k ≡ some g
      → let pages₁ = pages_after s pages hspot head in
      let lists₁ = lists_after s lists dh (store.count dh) hplace hspot t head in
      let pages' = pages_after s pages₁ spot key in
      let lists' = block_written s (lists_after s lists₁ d (store.count d) place spot t key) k (b.next k) g in
      StoreAt s (inserted s (inserted s store dh head t) d key t) pages' lists' × BlocksAt s (took s.w b k g) lists'
  unfolding after-head
  commit-both dh hplace hspot head d place spot key t k g q R dl F room short planned later h e =
      let A = insert-commit dh hplace hspot t head R in
      let o : d ≢ dh = λ z. q (sym z) in
      let c = count-other s store dh head t d o in
      let st₁ : Store = inserted s store dh head t in
      let pages₁ : Bytes = pages_after s pages hspot head in
      let lists₁ : Bytes = lists_after s lists dh (store.count dh) hplace hspot t head in
      let B = commit-entry s st₁ pages₁ lists₁ d place spot t key A.0 dl (subst (λ (x : ℕ). x < s.e) (sym c) room) short R.stamp-fits
      (λ i u. subst (λ (f : ℕ → ℕ). f i < t) (sym (stamp-other s store dh head t d o)) (later i (u ∙ c)))
      F.range
      (misses-after dh hplace hspot t head R d q dl place key F)
      (spot-after dh hplace hspot t head R d q dl (length key) ∙ planned)
      b
      A.1 in
      let C = subst
      (λ (n : ℕ). StoreAt s (inserted s st₁ d key t) (pages_after s pages₁ spot key) (lists_after s lists₁ d n place spot t key)
      × BlocksAt s b (lists_after s lists₁ d n place spot t key)) c B in
      commit-block s (inserted s st₁ d key t) b (pages_after s pages₁ spot key) (lists_after s lists₁ d (store.count d) place spot t key) k g C.0 C.1 h e
