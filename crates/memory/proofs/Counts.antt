-- The counts, the pages and the stamp of a memory that stands for a state. Assumes nothing.
use Prim.Native.Nat.{ℕ, ◌^◌, ◌≤◌, ◌<◌}
use mathlib.Core.Path.{◌≡◌, refl, sym, ap, ◌∙◌}
use mathlib.Core.Bool.{true}
use mathlib.Core.List.{List, [], ◌∷◌}
use mathlib.Core.Option.{none, some}
use native.Mathlib.Omega.{arith}
use native.Mathlib.Decide.{ℕ_discrete, dec_lt}
use borrow.Author.Tests.{eq-eqb, ne_eqb}
use lib.ListN.{length}
use Rattle.std.specs.Prelude.{Ok, Err}
use Rattle.slices.specs.Bytes.{Bytes}
use Rattle.words.specs.Words.{word_at}
use Rattle.refusals.specs.declared.Refusal.{Refusal}
use Rattle.refusals.specs.declared.Refusal.TheVariants.{Unopened, NoPage}
use Rattle.layout.specs.declared.Sizes.{Sizes}
use Rattle.layout.specs.Sizes.{kinds, dictionaries}
use Rattle.layout.specs.Fields.{untaken_at, count_at}
use Rattle.header.specs.Header.{header_of}
use Rattle.bytes_index.specs.Entries as Index
use Rattle.bytes_buffer.specs.Pages.{Space, sum, all_pages}
use Rattle.bytes_buffer.specs.Spots.{lowest_of, spot_in}
use Rattle.bytes_buffer.proofs.Pages.{sum_same, sum-most}
use Rattle.bytes_buffer.proofs.Plans.{untaken-known, plan-says}
use Rattle.bytes_dictionary.specs.Reading.{count_in}
use Rattle.bytes_dictionary.specs.Store.{DictAt}
use Rattle.bytes_dictionary.proofs.Header.{store-passes}
use Rattle.bytes_dictionary.proofs.Looked.{store-counted}
use Rattle.model.specs.Kinds.{row}
use Rattle.model.specs.State.{State, stamp_of}
use Rattle.model.specs.Keys.{keys_of}
use Rattle.model.proofs.Keys.{length-keys}
use Rattle.memory.specs.Stands.{entry_in, Stands}
use Rattle.memory.proofs.Probes.{main-below, head-below}

-- ---- a list's entries are those below its length

pub entry-below : (i : ℕ) (xs : List Bytes) → i < length xs → (key : Bytes) × (entry_in i xs ≡ some key)
entry-below i [] h = absurd (omega arith)
entry-below i (x ∷ xs) h = go (ℕ_discrete i (length xs)) (entry-below i xs)
  where
    go : Dec (i ≡ length xs) → (i < length xs → (key : Bytes) × (entry_in i xs ≡ some key)) → (key : Bytes) × (entry_in i (x ∷ xs) ≡ some key)
    go (yes q) ih = (x, rw (eq-eqb i (length xs) q))
    go (no q) ih = let r = ih (omega arith) in (r.0, rw (ne_eqb i (length xs) q) r.1)

pub entry_past : (i : ℕ) (xs : List Bytes) → length xs ≤ i → entry_in i xs ≡ none
entry_past i [] h = refl
entry_past i (x ∷ xs) h = rw (ne_eqb i (length xs) (omega arith)) (entry_past i xs (omega arith))

-- So a dictionary that holds a list's entries counts its length.
count-length : (s : Sizes) (pages lists : Bytes) (d : ℕ) (es : Index.Entries) (c : ℕ) (t : ℕ → ℕ) (xs : List Bytes) → DictAt s pages lists d es c t
    → ((i : ℕ) → es i ≡ entry_in i xs) → c ≡ length xs
count-length s pages lists d es c t xs D e = go (dec_lt c (length xs)) (dec_lt (length xs) c)
  where
    go : Dec (c < length xs) → Dec (length xs < c) → c ≡ length xs
    go (yes l) h =
        let u = entry-below c xs l in
        let v : none ≡ some u.0 = sym (D.past c (omega arith)) ∙ e c ∙ u.1 in cc
    go (no l) (yes h) =
        let u = D.in_use (length xs) h in
        let v : none ≡ some u.0 = sym (entry_past (length xs) xs (omega arith)) ∙ sym (e (length xs)) ∙ u.1 in cc
    go (no l) (no h) = omega arith

module _ {s : Sizes} {st : State} {pages lists : Bytes} (S : Stands s st pages lists) where
  -- ---- the kinds' dictionaries

  module _ (k : ℕ) (l : k < kinds) where
    pub main-count : S.store.count (row k).main_at ≡ length (st.part k).names
    main-count =
        count-length s pages lists (row k).main_at _ _ _ (keys_of (st.part k).heads (st.part k).names) (S.stored.dict (row k).main_at (main-below k)) (S.parts k l).main
        ∙ length-keys (st.part k).heads (st.part k).names

    pub head-count : (row k).paired ≡ true → S.store.count (row k).heads_at ≡ length (st.part k).heads
    head-count p =
        count-length s pages lists (row k).heads_at _ _ _ (st.part k).heads (S.stored.dict (row k).heads_at (head-below k)) ((S.parts k l).heads p)

    pub main-counted : count_in s (word_at lists (count_at (row k).main_at)) ≡ Ok (length (st.part k).names)
    main-counted = store-counted s S.store pages lists (row k).main_at (main-below k) S.stored ∙ ap Ok main-count

    pub head-counted : (row k).paired ≡ true → count_in s (word_at lists (count_at (row k).heads_at)) ≡ Ok (length (st.part k).heads)
    head-counted p = store-counted s S.store pages lists (row k).heads_at (head-below k) S.stored ∙ ap Ok (head-count p)

  pub next-count : (k : ℕ) → st.blocks.next k ≡ length (st.part k).names
  next-count k = (S.good.part k).numbered

  -- ---- pages and header

  taken-same : (d : ℕ) → d < dictionaries → (S.store.space d).taken ≡ (st.space d).taken
  taken-same d l = ap (λ (x : Space). x.taken) (S.spaces d l)

  pub pages-same : all_pages S.store.space ≡ all_pages st.space
  unfolding all_pages
  pages-same = sum_same _ _ dictionaries taken-same

  pub untaken-is : word_at lists untaken_at ≡ all_pages st.space
  untaken-is = S.stored.paged.lowest ∙ pages-same

  pub lowest-is-known : lowest_of s (word_at lists untaken_at) ≡ Ok (all_pages st.space)
  lowest-is-known = untaken-known s S.store.space (word_at lists) S.stored.paged ∙ ap Ok pages-same

  pub header_is : header_of (length pages) lists ≡ Ok s
  header_is = store-passes s S.store pages lists S.stored

  -- A plan without a spot found no page,
  pub spot-pageless : {why : Refusal} (d u n : ℕ) → d < dictionaries → spot_in s (word_at lists) d u n ≡ Err why → why ≡ NoPage
  spot-pageless d u n l e = (plan-says s S.store.space (word_at lists) d u n S.stored.paged l (Err _) e).0

  -- and never memory that is no dictionary's.
  pub spot_known : (d u n : ℕ) → d < dictionaries → spot_in s (word_at lists) d u n ≡ Err Unopened → ⊥
  spot_known d u n l e = let q : Unopened ≡ NoPage = spot-pageless d u n l e in cc

  -- ---- the next stamp

  -- Every name used a local number up.
  pub stamp-is : stamp_of st.blocks ≡ sum (λ k. length (st.part k).names) kinds
  stamp-is = sum_same _ _ kinds (λ k l. next-count k)

  pub stamp-small : stamp_of st.blocks < 2 ^ 64
  stamp-small = omega (arith, stamp-is, S.good.sizes.e, sum-most (λ k. length (st.part k).names) s.e kinds (λ k l. (S.good.part k).few_names))
