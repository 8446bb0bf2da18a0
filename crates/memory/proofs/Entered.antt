-- What an add answers once everything is decided, and what its writes leave. Assumes nothing.
use Prim.Native.Nat.{ℕ, ◌+◌, ◌≤◌, ◌<◌}
use mathlib.Core.Path.{◌≡◌, refl, sym, ap, subst, ◌∙◌}
use mathlib.Core.Logic.{◌⊎◌, ◌≢◌, inl, inr}
use mathlib.Core.Bool.{true, false}
use mathlib.Core.List.{List, [], ◌∷◌, ◌++◌}
use mathlib.Core.Option.{none, some}
use native.Mathlib.Omega.{arith}
use borrow.Author.Tests.{le-leb, lt-leb, le-ltb, lt-ltb, eq-eqb}
use lib.Dec.{leb}
use lib.ListN.{length}
use Rattle.std.specs.Prelude.{Option, Some, None, Result, Ok, Err}
use Rattle.slices.specs.Bytes.{Bytes, same_bytes}
use Rattle.slices.proofs.Bytes.{bytes-true}
use Rattle.slices.proofs.Tests.{Split, split, and_right}
use Rattle.words.specs.Words.{word_at}
use Rattle.refusals.specs.declared.Refusal.{Refusal}
use Rattle.refusals.specs.declared.Refusal.TheVariants as R
use Rattle.layout.specs.declared.Sizes.{Sizes}
use Rattle.layout.specs.Sizes.{kinds, dictionaries, page_size}
use Rattle.layout.specs.Fields.{untaken_at}
use Rattle.ranked_pair_dictionary.specs.FrequentId.{fid}
use Rattle.ranked_pair_dictionary.proofs.Laws.{fid-same}
use Rattle.bytes_index.specs.Search.{Searched}
use Rattle.bytes_index.specs.declared.Probe.TheVariants.{At, Free}
use Rattle.bytes_buffer.specs.declared.Spot.{Spot}
use Rattle.bytes_buffer.specs.declared.Spot.TheVariants.{Current, Next}
use Rattle.bytes_buffer.specs.Pages.{Space, fits, grown_at, all_pages}
use Rattle.bytes_buffer.specs.Spots.{spot_in, untaken_after}
use Rattle.bytes_buffer.proofs.Pages.{grown-other, pages-fit, pages-unfit}
use Rattle.bytes_buffer.proofs.Plans.{plan-says, current-pages, next-pages, none_over}
use Rattle.bytes_dictionary.specs.Written.{pages_after, lists_after}
use Rattle.bytes_dictionary.specs.Ready.{Ready}
use Rattle.blocks.specs.Blocks.{pick, global}
use Rattle.blocks.specs.Answers.{block_written}
use Rattle.model.specs.Names.{Name}
use Rattle.model.specs.Kinds.{row}
use Rattle.model.specs.State.{Stamped, State, stamp_of, local_of, entry_number, number_of}
use Rattle.model.specs.Steps.{checks, name_head, new_head, key_of, is_full, space_after, room, refuse, found, enter, decide, extended}
use Rattle.model.specs.Keys.{keys_of, looked_up}
use Rattle.model.specs.Good.{NamesOf, Covered}
use Rattle.model.proofs.Legal.{legal-kind}
use Rattle.model.proofs.Lengths.{key-short, head-short}
use Rattle.model.proofs.Parts.{is-none}
use Rattle.model.proofs.Keys.{entry_lt, length-keys, looked-up}
use Rattle.model.proofs.Decide.{Entering, decided-known, decided-refused, decided-block, decided-enter}
use Rattle.memory.specs.Stands.{stamp_in, Stands}
use Rattle.memory.proofs.Probes.{main-below, head-below, head_apart, main-at, main-free}
use Rattle.memory.proofs.Counts.{main-count, head-count, next-count, untaken-is, stamp-small}
use Rattle.memory.proofs.Added.{main_of, heads_of, part_of, key_in, new-paired, stands-added, added-one, added-both}
use Rattle.memory.proofs.Commits.{commit-one, commit-both}

-- ---- of the state alone

module _ (s : Sizes) (st : State) (a : Name) where
  room-full : is_full s a (part_of st a) ≡ true → room s st a ≡ some R.ListFull
  unfolding room
  room-full f = rw f

  module _ (f : is_full s a (part_of st a) ≡ false) where
    room-over : s.n < all_pages (space_after s st a) → room s st a ≡ some R.NoPage
    unfolding room
    room-over h = rw (f, lt-ltb s.n (all_pages (space_after s st a)) h)

    room_fits : all_pages (space_after s st a) ≤ s.n → room s st a ≡ none
    unfolding room
    room_fits h = rw (f, le-ltb s.n (all_pages (space_after s st a)) h)

  number-none : local_of a (part_of st a).names ≡ none → number_of s st a ≡ none
  unfolding number_of
  number-none e = rw e

  number-some : (i : ℕ) → local_of a (part_of st a).names ≡ some i → number_of s st a ≡ some (global s.w st.blocks a.kind i)
  unfolding number_of
  number-some i e = rw e

-- One entry more never frees a page.
grown-most : (s : Sizes) (sp : ℕ → Space) (d n : ℕ) → d < dictionaries → all_pages sp ≤ all_pages (grown_at s sp d n)
grown-most s sp d n l = go (split (fits s.p (sp d) n))
  where
    go : Split (fits s.p (sp d) n) → all_pages sp ≤ all_pages (grown_at s sp d n)
    go (inl e) = omega (arith, pages-fit s sp d n l e)
    go (inr e) = omega (arith, pages-unfit s sp d n l e)

-- The last name's stamp is below the next one.
last-stamp : (s : Sizes) (k t : ℕ) (xs : List Stamped) (i : ℕ) → NamesOf s k t xs → i + 1 ≡ length xs → stamp_in i xs < t
last-stamp s k t [] i o q = absurd (omega arith)
last-stamp s k t (x ∷ xs) i o q = rw (eq-eqb i (length xs) (omega arith)) o.3

-- The key with the next head's number is not among the stored ones.
unstored : (s : Sizes) (k t : ℕ) (hs : List Bytes) (xs : List Stamped) (rest : Bytes) → length hs ≤ 1048576 → (row k).paired ≡ true → NamesOf s k t xs → Covered hs xs
    → entry_number (fid (length hs) ++ rest) (keys_of hs xs) ≡ none
unstored s k t hs [] rest few p o c = refl
unstored s k t hs (x ∷ xs) rest few p o c = go (split (same_bytes (fid (length hs) ++ rest) (key_of hs x.name))) (unstored s k x.stamp hs xs rest few p o.4 c.1)
  where
    go : Split (same_bytes (fid (length hs) ++ rest) (key_of hs x.name)) → entry_number (fid (length hs) ++ rest) (keys_of hs xs) ≡ none
        → entry_number (fid (length hs) ++ rest) (keys_of hs (x ∷ xs)) ≡ none
    go (inr q) ih = rw q ih
    go (inl q) ih =
        let p' : (row x.name.kind).paired ≡ true = rw o.1 p in
        let l : c.0.0 < length hs = entry_lt (name_head x.name) hs c.0.0 c.0.1 in
        let e : fid (length hs) ++ rest ≡ fid c.0.0 ++ (row x.name.kind).rest x.name = bytes-true _ _ q ∙ rw (p', c.0.1) in
        let f = fid-same (length hs) c.0.0 rest ((row x.name.kind).rest x.name) (omega arith) (omega arith) e in
        absurd (omega (arith, f.0))

-- ---- what was found out

-- Where the name's head goes, and where its key goes after a head at this spot, or after none.
abbrev pub head_plan : Sizes → State → Bytes → Name → Result Spot Refusal
head_plan s st lists a = spot_in s (word_at lists) (heads_of a) (all_pages st.space) (length (name_head a))

abbrev pub main_plan : Sizes → State → Bytes → Name → Option Spot → Result Spot Refusal
main_plan s st lists a head = spot_in s (word_at lists) (main_of a) (untaken_after (all_pages st.space) head) (length (key_in st a))

-- Before a name is written whose head is stored or whose kind has none.
pub record One (s : Sizes) (st : State) (pages lists : Bytes) (a : Name) (place : ℕ) (spot : Spot) (g : ℕ) : Type 0 where
  pub legal : checks s a ≡ none
  pub old : new_head a (part_of st a) ≡ false
  pub searched : Searched s (main_of a) pages lists (key_in st a) (Ok (Free place))
  pub room : length (part_of st a).names < s.e
  pub planned : main_plan s st lists a None ≡ Ok spot
  pub picked : pick s st.blocks a.kind ≡ some g

-- Before a name is written after its head, which is a new one: both were searched and planned first.
pub record Both (s : Sizes) (st : State) (pages lists : Bytes) (a : Name) (hplace : ℕ) (hspot : Spot) (place : ℕ) (spot : Spot) (g : ℕ) : Type 0 where
  pub legal : checks s a ≡ none
  pub new : new_head a (part_of st a) ≡ true
  pub head-searched : Searched s (heads_of a) pages lists (name_head a) (Ok (Free hplace))
  pub searched : Searched s (main_of a) pages lists (key_in st a) (Ok (Free place))
  pub head-room : length (part_of st a).heads < s.e
  pub room : length (part_of st a).names < s.e
  pub head-planned : head_plan s st lists a ≡ Ok hspot
  pub planned : main_plan s st lists a (Some hspot) ≡ Ok spot
  pub picked : pick s st.blocks a.kind ≡ some g

module _ {s : Sizes} {st : State} {pages lists : Bytes} (S : Stands s st pages lists) where
  -- ---- what a plan says of the pages; sp are the state's spaces, or those with the head

  module _ (sp : ℕ → Space) (d u n : ℕ) (l : d < dictionaries) (same : sp d ≡ st.space d) (all : all_pages sp ≡ u) where
    at_store : sp d ≡ S.store.space d
    at_store = same ∙ sym (S.spaces d l)

    pages-spot : (spot : Spot) → u ≤ s.n → spot_in s (word_at lists) d u n ≡ Ok spot
        → (all_pages (grown_at s sp d n) ≡ untaken_after u (Some spot)) × (all_pages (grown_at s sp d n) ≤ s.n)
    pages-spot (Current g o) h e =
        let p = current-pages s S.store.space sp (word_at lists) d u n S.stored.paged l at_store all g o e in (p, omega arith)
    pages-spot (Next g) h e =
        let p = next-pages s S.store.space sp (word_at lists) d u n S.stored.paged l at_store all g e in
        let q = plan-says s S.store.space (word_at lists) d u n S.stored.paged l (Ok (Next g)) e in
        (omega arith, omega (arith, q.2))

    pages-none : spot_in s (word_at lists) d u n ≡ Err R.NoPage → s.n < all_pages (grown_at s sp d n)
    pages-none e = none_over s S.store.space sp (word_at lists) d u n S.stored.paged l at_store all e

  -- ---- a legal name

  module _ (a : Name) (legal : checks s a ≡ none) where
    kind-in : a.kind < kinds
    kind-in = legal-kind s a legal

    local-is : local_of a (part_of st a).names ≡ looked_up a (part_of st a)
    local-is = looked-up s S.good.sizes a (stamp_of st.blocks) _ (part_of st a) (S.good.part a.kind) legal

    main-later : (i : ℕ) → i + 1 ≡ S.store.count (main_of a) → S.store.stamp (main_of a) i < stamp_of st.blocks
    main-later i q =
        subst (λ (x : ℕ). x < stamp_of st.blocks) (sym ((S.parts a.kind kind-in).stamps i))
        (last-stamp s a.kind (stamp_of st.blocks) (part_of st a).names i (S.good.part a.kind).names (q ∙ main-count S a.kind kind-in))

    key_fits : length (key_in st a) ≤ page_size s
    key_fits = key-short s a legal S.good.sizes (part_of st a).heads

    -- ---- its head is stored, or its kind has none

    module _ (old : new_head a (part_of st a) ≡ false) where
      local-old : local_of a (part_of st a).names ≡ entry_number (key_in st a) (keys_of (part_of st a).heads (part_of st a).names)
      local-old = local-is ∙ rw old

      space-old : space_after s st a ≡ grown_at s st.space (main_of a) (length (key_in st a))
      space-old = rw old

      pub known-one : (i : ℕ) → Searched s (main_of a) pages lists (key_in st a) (Ok (At i))
          → (decide s st a ≡ found (global s.w st.blocks a.kind i)) × (i < st.blocks.next a.kind)
      known-one i q =
          let e = main-at s st pages lists S a.kind kind-in (key_in st a) i q in (
            decided-known s st a legal _ (number-some s st a i (local-old ∙ e)),
            omega (arith, entry_lt (key_in st a) (keys_of (part_of st a).heads (part_of st a).names) i e, length-keys (part_of st a).heads (part_of st a).names, next-count S a.kind),
          )

      module _ (place : ℕ) (searched : Searched s (main_of a) pages lists (key_in st a) (Ok (Free place))) where
        new-one : number_of s st a ≡ none
        new-one = number-none s st a (local-old ∙ main-free s st pages lists S a.kind kind-in (key_in st a) place searched)

        pub full-one : s.e ≤ length (part_of st a).names → decide s st a ≡ refuse R.ListFull
        full-one h = decided-refused s st a legal new-one R.ListFull (room-full s st a (rw (le-leb s.e (length (part_of st a).names) h)))

        module _ (main-room : length (part_of st a).names < s.e) where
          unfull-one : is_full s a (part_of st a) ≡ false
          unfull-one = rw (lt-leb s.e (length (part_of st a).names) main-room, old)

          pub pageless-one : main_plan s st lists a None ≡ Err R.NoPage → decide s st a ≡ refuse R.NoPage
          pageless-one e =
              decided-refused s st a legal new-one R.NoPage (room-over s st a unfull-one
              (subst (λ (sp : ℕ → Space). s.n < all_pages sp) (sym space-old) (pages-none st.space (main_of a) (all_pages st.space) _ (main-below a.kind) refl refl e)))

          module _ (spot : Spot) (planned : main_plan s st lists a None ≡ Ok spot) where
            roomy-one : room s st a ≡ none
            roomy-one =
                room_fits s st a unfull-one
                (subst (λ (sp : ℕ → Space). all_pages sp ≤ s.n) (sym space-old)
                (pages-spot st.space (main_of a) (all_pages st.space) _ (main-below a.kind) refl refl spot S.good.taken planned).1)

            pub blockless-one : pick s st.blocks a.kind ≡ none → decide s st a ≡ refuse R.NoBlock
            blockless-one b = decided-block s st a legal new-one roomy-one b

    -- ---- its head is a new one

    module _ (new : new_head a (part_of st a) ≡ true) where
      pair : (row a.kind).paired ≡ true
      pair = new-paired a (part_of st a) new

      head-new : entry_number (name_head a) (part_of st a).heads ≡ none
      head-new = is-none _ (and_right (row a.kind).paired _ new)

      pub key-new : key_in st a ≡ fid (length (part_of st a).heads) ++ (row a.kind).rest a
      key-new = rw (pair, head-new)

      -- The key has the number that the head is about to get, so it is not stored.
      pub head-missing : (i : ℕ) → Searched s (main_of a) pages lists (key_in st a) (Ok (At i)) → ⊥
      head-missing i q =
          let e = main-at s st pages lists S a.kind kind-in (key_in st a) i q in
          let G = S.good.part a.kind in
          let n = unstored s a.kind (stamp_of st.blocks) (part_of st a).heads (part_of st a).names ((row a.kind).rest a) (omega (arith, G.few_heads, S.good.sizes.e))
          pair
          G.names
          (G.covered pair) in
          let u : some i ≡ none = sym e ∙ ap (λ (x : Bytes). entry_number x (keys_of (part_of st a).heads (part_of st a).names)) key-new ∙ n in cc

      new-both : number_of s st a ≡ none
      new-both = number-none s st a (local-is ∙ rw new)

      pub full-both : (s.e ≤ length (part_of st a).names) ⊎ (s.e ≤ length (part_of st a).heads) → decide s st a ≡ refuse R.ListFull
      full-both h = decided-refused s st a legal new-both R.ListFull (room-full s st a (go h (split (leb s.e (length (part_of st a).names)))))
        where
          go : (s.e ≤ length (part_of st a).names) ⊎ (s.e ≤ length (part_of st a).heads) → Split (leb s.e (length (part_of st a).names)) → is_full s a (part_of st a) ≡ true
          go h (inl p) = rw p
          go (inl h) (inr p) = rw (le-leb s.e (length (part_of st a).names) h)
          go (inr h) (inr p) = rw (p, new, le-leb s.e (length (part_of st a).heads) h)

      -- The spaces with the head.
      abbrev headed : ℕ → Space
      headed = grown_at s st.space (heads_of a) (length (name_head a))

      space-new : space_after s st a ≡ grown_at s headed (main_of a) (length (key_in st a))
      space-new = rw new

      main-apart : heads_of a ≢ main_of a
      main-apart = head_apart a.kind pair

      headed-main : headed (main_of a) ≡ st.space (main_of a)
      headed-main = grown-other s st.space (heads_of a) (length (name_head a)) (main_of a) (λ e. main-apart (sym e))

      module _ (head-room : length (part_of st a).heads < s.e) (main-room : length (part_of st a).names < s.e) where
        unfull-both : is_full s a (part_of st a) ≡ false
        unfull-both = rw (lt-leb s.e (length (part_of st a).names) main-room, new, lt-leb s.e (length (part_of st a).heads) head-room)

        pages-headed : (hspot : Spot) → head_plan s st lists a ≡ Ok hspot → (all_pages headed ≡ untaken_after (all_pages st.space) (Some hspot)) × (all_pages headed ≤ s.n)
        pages-headed hspot e = pages-spot st.space (heads_of a) (all_pages st.space) _ (head-below a.kind) refl refl hspot S.good.taken e

        -- No page for the head, or none for the main entry after it.
        over-both : (head_plan s st lists a ≡ Err R.NoPage) ⊎ ((hspot : Spot) × (head_plan s st lists a ≡ Ok hspot) × (main_plan s st lists a (Some hspot) ≡ Err R.NoPage))
            → s.n < all_pages (grown_at s headed (main_of a) (length (key_in st a)))
        over-both (inl e) =
            omega (
              arith,
              pages-none st.space (heads_of a) (all_pages st.space) _ (head-below a.kind) refl refl e,
              grown-most s headed (main_of a) (length (key_in st a)) (main-below a.kind),
            )
        over-both (inr e) =
            pages-none headed (main_of a) (untaken_after (all_pages st.space) (Some e.0)) _ (main-below a.kind) headed-main (pages-headed e.0 e.1).0 e.2

        pub pageless-both : (head_plan s st lists a ≡ Err R.NoPage) ⊎ ((hspot : Spot) × (head_plan s st lists a ≡ Ok hspot) × (main_plan s st lists a (Some hspot) ≡ Err R.NoPage))
            → decide s st a ≡ refuse R.NoPage
        pageless-both h =
            decided-refused s st a legal new-both R.NoPage
            (room-over s st a unfull-both (subst (λ (sp : ℕ → Space). s.n < all_pages sp) (sym space-new) (over-both h)))

        module _ (hspot : Spot) (head-planned : head_plan s st lists a ≡ Ok hspot) (spot : Spot) (planned : main_plan s st lists a (Some hspot) ≡ Ok spot) where
          roomy-both : room s st a ≡ none
          roomy-both =
              let p = pages-headed hspot head-planned in
              room_fits s st a unfull-both
              (subst (λ (sp : ℕ → Space). all_pages sp ≤ s.n) (sym space-new)
              (pages-spot headed (main_of a) (untaken_after (all_pages st.space) (Some hspot)) _ (main-below a.kind) headed-main p.0 spot (omega (arith, p.0, p.1)) planned).1)

          pub blockless-both : pick s st.blocks a.kind ≡ none → decide s st a ≡ refuse R.NoBlock
          blockless-both b = decided-block s st a legal new-both roomy-both b

  -- ---- the writes

  -- A plan with the untaken word of the memory.
  by_word : (d n : ℕ) (f : ℕ → ℕ) (spot : Spot) → spot_in s (word_at lists) d (f (all_pages st.space)) n ≡ Ok spot → spot_in s (word_at lists) d (f (word_at lists untaken_at)) n ≡ Ok spot
  by_word d n f spot e = subst (λ (u : ℕ). spot_in s (word_at lists) d (f u) n ≡ Ok spot) (sym (untaken-is S)) e

  pub enter_one : {a : Name} {place : ℕ} {spot : Spot} {g : ℕ} → One s st pages lists a place spot g
      → (decide s st a ≡ enter g)
      × Stands s (extended s st a g) (pages_after s pages spot (key_in st a))
      (block_written s (lists_after s lists (main_of a) (length (part_of st a).names) place spot (stamp_of st.blocks) (key_in st a)) a.kind (length (part_of st a).names) g)
  enter_one {a} {place} {spot} {g} O =
      let t : ℕ = stamp_of st.blocks in
      let C = commit-one s S.store st.blocks pages lists S.stored S.blocked (main_of a) place spot t (key_in st a) a.kind g ready l O.picked in (
        decided-enter s st a O.legal E.new E.roomy g O.picked,
        subst
            (λ (x : ℕ). Stands s (extended s st a g) (pages_after s pages spot (key_in st a))
            (block_written s (lists_after s lists (main_of a) x place spot t (key_in st a)) a.kind (length (part_of st a).names) g))
            (main-count S a.kind l)
            (subst
            (λ (x : ℕ). Stands s (extended s st a g) (pages_after s pages spot (key_in st a))
            (block_written s (lists_after s lists (main_of a) (S.store.count (main_of a)) place spot t (key_in st a)) a.kind x g))
            (next-count S a.kind)
            (stands-added S E (added-one S a l O.old) _ _ C.0 C.1)),
      )
    where
      l : a.kind < kinds
      l = legal-kind s a O.legal

      E : Entering s st a g
      E = record {
        legal = O.legal;
        new = new-one a O.legal O.old place O.searched;
        roomy = roomy-one a O.legal O.old place O.searched O.room spot O.planned;
        block = O.picked;
      }

      ready : Ready s S.store pages lists (main_of a) place spot (stamp_of st.blocks) (key_in st a)
      ready = record {
        known = main-below a.kind;
        searched = O.searched;
        room = subst (λ (n : ℕ). n < s.e) (sym (main-count S a.kind l)) O.room;
        short = key_fits a O.legal;
        planned = by_word (main_of a) _ (λ u. u) spot O.planned;
        stamp-fits = stamp-small S;
        later = main-later a O.legal;
      }

  pub enter-both : {a : Name} {hplace : ℕ} {hspot : Spot} {place : ℕ} {spot : Spot} {g : ℕ} → Both s st pages lists a hplace hspot place spot g
      → (decide s st a ≡ enter g)
      × Stands s (extended s st a g) (pages_after s (pages_after s pages hspot (name_head a)) spot (key_in st a))
      (block_written s
      (lists_after s (lists_after s lists (heads_of a) (length (part_of st a).heads) hplace hspot (stamp_of st.blocks) (name_head a)) (main_of a) (length (part_of st a).names)
      place
      spot
      (stamp_of st.blocks)
      (key_in st a))
      a.kind
      (length (part_of st a).names)
      g)
  enter-both {a} {hplace} {hspot} {place} {spot} {g} B =
      let t : ℕ = stamp_of st.blocks in
      let C = commit-both s S.store st.blocks pages lists S.stored S.blocked (heads_of a) hplace hspot (name_head a) (main_of a) place spot (key_in st a) t a.kind g
      (main-apart a B.legal B.new)
      ready
      (main-below a.kind)
      B.searched
      (subst (λ (n : ℕ). n < s.e) (sym (main-count S a.kind l)) B.room)
      (key_fits a B.legal)
      (by_word (main_of a) _ (λ u. untaken_after u (Some hspot)) spot B.planned)
      (main-later a B.legal)
      l
      B.picked in (
        decided-enter s st a B.legal E.new E.roomy g B.picked,
        subst (λ (x : ℕ). After x (length (part_of st a).names) (length (part_of st a).names)) (head-count S a.kind l pd)
            (subst (λ (x : ℕ). After (S.store.count (heads_of a)) x (length (part_of st a).names)) (main-count S a.kind l)
            (subst (λ (x : ℕ). After (S.store.count (heads_of a)) (S.store.count (main_of a)) x) (next-count S a.kind)
            (stands-added S E (added-both S a l B.new) _ _ C.0 C.1))),
      )
    where
      l : a.kind < kinds
      l = legal-kind s a B.legal

      pd : (row a.kind).paired ≡ true
      pd = new-paired a (part_of st a) B.new

      -- With these counts of heads and of names, and this next number.
      After : ℕ → ℕ → ℕ → Type 0
      After h n m = Stands s (extended s st a g) (pages_after s (pages_after s pages hspot (name_head a)) spot (key_in st a))
          (block_written s
          (lists_after s (lists_after s lists (heads_of a) h hplace hspot (stamp_of st.blocks) (name_head a)) (main_of a) n place spot (stamp_of st.blocks) (key_in st a))
          a.kind
          m
          g)

      E : Entering s st a g
      E = record {
        legal = B.legal;
        new = new-both a B.legal B.new;
        roomy = roomy-both a B.legal B.new B.head-room B.room hspot B.head-planned spot B.planned;
        block = B.picked;
      }

      ready : Ready s S.store pages lists (heads_of a) hplace hspot (stamp_of st.blocks) (name_head a)
      ready = record {
        known = head-below a.kind;
        searched = B.head-searched;
        room = subst (λ (n : ℕ). n < s.e) (sym (head-count S a.kind l pd)) B.head-room;
        short = head-short s a B.legal S.good.sizes;
        planned = by_word (heads_of a) _ (λ u. u) hspot B.head-planned;
        stamp-fits = stamp-small S;
        later = λ i q. (S.parts a.kind l).older pd i (omega (arith, head-count S a.kind l pd));
      }
