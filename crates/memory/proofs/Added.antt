-- A store that gained one name's entries holds the parts of the state with that name. Assumes nothing.
use Prim.Native.Nat.{ℕ, suc, ◌<◌}
use mathlib.Core.Path.{◌≡◌, refl, sym, ap, subst, ◌∙◌}
use mathlib.Core.Logic.{◌≢◌}
use mathlib.Core.Bool.{true, false}
use mathlib.Core.List.{List, ◌∷◌}
use mathlib.Core.Option.{some}
use native.Mathlib.Omega.{arith}
use native.Mathlib.Decide.{ℕ_discrete}
use borrow.Author.Tests.{eq-eqb, ne_eqb}
use lib.ListN.{length}
use Rattle.slices.specs.Bytes.{Bytes}
use Rattle.slices.specs.Updates.{upd}
use Rattle.slices.proofs.Tests.{and_left}
use Rattle.layout.specs.declared.Sizes.{Sizes}
use Rattle.layout.specs.Sizes.{kinds, dictionaries}
use Rattle.bytes_index.specs.Entries.{Entries}
use Rattle.bytes_buffer.specs.Pages.{Space, grown, grown_at}
use Rattle.bytes_buffer.proofs.Pages.{grown-same, grown-other}
use Rattle.bytes_dictionary.specs.Store.{Store, inserted, StoreAt}
use Rattle.bytes_dictionary.proofs.Updates.{upd_same}
use Rattle.blocks.specs.Blocks.{took}
use Rattle.blocks.specs.Tables.{BlocksAt}
use Rattle.model.specs.Names.{Name}
use Rattle.model.specs.Kinds.{row}
use Rattle.model.specs.State.{Stamped, Part, State, stamp_of}
use Rattle.model.specs.Steps.{name_head, new_head, key_of, part_after, space_after, extended}
use Rattle.model.specs.Keys.{keys_of}
use Rattle.model.proofs.Table.{owner_kind, main-kind, heads-kind}
use Rattle.model.proofs.Legal.{legal-kind}
use Rattle.model.proofs.Keys.{length-keys, keys-after}
use Rattle.model.proofs.Decide.{Entering}
use Rattle.model.proofs.Good.{stamp-more, extended-good}
use Rattle.memory.specs.Stands.{entry_in, stamp_in, PartIn, Stands}
use Rattle.memory.proofs.Probes.{main-below, head-below, head_apart}
use Rattle.memory.proofs.Commits.{entries-other, count-other, stamp-other}
use Rattle.memory.proofs.Counts.{main-count, head-count}

-- ---- no two kinds share a dictionary

kinds-apart : (d e j k : ℕ) → owner_kind d ≡ j → owner_kind e ≡ k → j ≢ k → d ≢ e
kinds-apart d e j k p q n r = n (sym p ∙ ap owner_kind r ∙ q)

-- ---- one entry more

entry_more : (es : Entries) (xs : List Bytes) (n : ℕ) (key : Bytes) → ((i : ℕ) → es i ≡ entry_in i xs) → n ≡ length xs → (i : ℕ)
    → upd es n (some key) i ≡ entry_in i (key ∷ xs)
entry_more es xs n key e q i = go (ℕ_discrete n i)
  where
    go : Dec (n ≡ i) → upd es n (some key) i ≡ entry_in i (key ∷ xs)
    go (yes p) = rw (eq-eqb n i p, eq-eqb i (length xs) (sym p ∙ q))
    go (no p) = rw (ne_eqb n i p, ne_eqb i (length xs) (λ r. p (q ∙ sym r))) (e i)

stamps-more : (f : ℕ → ℕ) (xs : List Stamped) (n : ℕ) (x : Stamped) → ((i : ℕ) → f i ≡ stamp_in i xs) → n ≡ length xs → (i : ℕ)
    → upd f n x.stamp i ≡ stamp_in i (x ∷ xs)
stamps-more f xs n x e q i = go (ℕ_discrete n i)
  where
    go : Dec (n ≡ i) → upd f n x.stamp i ≡ stamp_in i (x ∷ xs)
    go (yes p) = rw (eq-eqb n i p, eq-eqb i (length xs) (sym p ∙ q))
    go (no p) = rw (ne_eqb n i p, ne_eqb i (length xs) (λ r. p (q ∙ sym r))) (e i)

-- The dictionary of an insert.
module _ (s : Sizes) (store : Store) (d : ℕ) (key : Bytes) (t : ℕ) where
  insert-entries : (i : ℕ) → (inserted s store d key t).entries d i ≡ upd (store.entries d) (store.count d) (some key) i
  unfolding inserted
  insert-entries i = ap (λ (f : Entries). f i) (upd_same store.entries d _)

  insert-stamps : (i : ℕ) → (inserted s store d key t).stamp d i ≡ upd (store.stamp d) (store.count d) t i
  unfolding inserted
  insert-stamps i = ap (λ (f : ℕ → ℕ). f i) (upd_same store.stamp d _)

  insert-spaces : (inserted s store d key t).space ≡ grown_at s store.space d (length key)
  unfolding inserted
  insert-spaces = refl

-- Spaces that agree below `dictionaries` do after one entry more.
grown-agree : (s : Sizes) (f g : ℕ → Space) (d n : ℕ) → d < dictionaries → ((e : ℕ) → e < dictionaries → f e ≡ g e) → (e : ℕ) → e < dictionaries
    → grown_at s f d n e ≡ grown_at s g d n e
grown-agree s f g d n l h e m = go (ℕ_discrete e d)
  where
    go : Dec (e ≡ d) → grown_at s f d n e ≡ grown_at s g d n e
    go (yes q) =
        subst (λ (x : ℕ). grown_at s f d n x ≡ grown_at s g d n x) (sym q)
        (grown-same s f d n ∙ ap (λ (x : Space). grown s.p x n) (h d l) ∙ sym (grown-same s g d n))
    go (no q) = grown-other s f d n e q ∙ h e m ∙ sym (grown-other s g d n e q)

-- ---- one name more

-- Its dictionaries, its kind's part before it, and what its main dictionary stores of it.
abbrev pub main_of : Name → ℕ
main_of a = (row a.kind).main_at

abbrev pub heads_of : Name → ℕ
heads_of a = (row a.kind).heads_at

abbrev pub part_of : State → Name → Part
part_of st a = st.part a.kind

abbrev pub key_in : State → Name → Bytes
key_in st a = key_of (part_of st a).heads a

-- Only a kind with heads has new ones.
pub new-paired : (a : Name) (pt : Part) → new_head a pt ≡ true → (row a.kind).paired ≡ true
new-paired a pt new = and_left (row a.kind).paired _ new

-- The name with its stamp.
abbrev pub stamped_in : State → Name → Stamped
stamped_in st a = record { name = a; stamp = stamp_of st.blocks }

-- Its kind's part with it.
abbrev pub part_with : State → Name → Part
part_with st a = part_after a (part_of st a) (stamp_of st.blocks)

-- The store that was `store` has the entries of one name more.
pub record StoreAdded (s : Sizes) (st : State) (store store' : Store) (a : Name) : Type 0 where
  pub main : (i : ℕ) → store'.entries (main_of a) i ≡ entry_in i (key_in st a ∷ keys_of (part_of st a).heads (part_of st a).names)
  pub stamps : (i : ℕ) → store'.stamp (main_of a) i ≡ stamp_in i (stamped_in st a ∷ (part_of st a).names)
  pub heads : (row a.kind).paired ≡ true → (i : ℕ) → store'.entries (heads_of a) i ≡ entry_in i (part_with st a).heads
  pub older : (row a.kind).paired ≡ true → (i : ℕ) → i < length (part_with st a).heads → store'.stamp (heads_of a) i < suc (stamp_of st.blocks)
  pub others : (d : ℕ) → d ≢ main_of a → d ≢ heads_of a → (store'.entries d ≡ store.entries d) × (store'.stamp d ≡ store.stamp d)
  pub spaces : (d : ℕ) → d < dictionaries → store'.space d ≡ space_after s st a d

module _ {s : Sizes} {st : State} {pages lists : Bytes} (S : Stands s st pages lists) where
  -- ---- memory that holds that store and the blocks after the name stands for the state with it

  module _ {a : Name} {g : ℕ} (E : Entering s st a g) {store' : Store} (A : StoreAdded s st S.store store' a) where
    own-part : PartIn store' a.kind (suc (stamp_of st.blocks)) (part_with st a)
    own-part =
        record {
          main = λ i. A.main i ∙ ap (entry_in i) (sym (keys-after s a (stamp_of st.blocks) _ (part_of st a) (S.good.part a.kind)));
          stamps = A.stamps;
          heads = A.heads;
          older = A.older;
        }

    other-part : (k : ℕ) → k < kinds → k ≢ a.kind → PartIn store' k (suc (stamp_of st.blocks)) (st.part k)
    other-part k l n =
        let P = S.parts k l in
        let j : a.kind < kinds = legal-kind s a E.legal in
        let m = A.others (row k).main_at (kinds-apart _ _ k a.kind (main-kind k l) (main-kind a.kind j) n)
        (kinds-apart _ _ k a.kind (main-kind k l) (heads-kind a.kind j) n) in
        let h = A.others (row k).heads_at (kinds-apart _ _ k a.kind (heads-kind k l) (main-kind a.kind j) n)
        (kinds-apart _ _ k a.kind (heads-kind k l) (heads-kind a.kind j) n) in
        record {
          main = λ i. ap (λ (f : Entries). f i) m.0 ∙ P.main i;
          stamps = λ i. ap (λ (f : ℕ → ℕ). f i) m.1 ∙ P.stamps i;
          heads = λ p i. ap (λ (f : Entries). f i) h.0 ∙ P.heads p i;
          older = λ p i b. omega (arith, ap (λ (f : ℕ → ℕ). f i) h.1, P.older p i b);
        }

    parts-after : (k : ℕ) → k < kinds → PartIn store' k (stamp_of (took s.w st.blocks a.kind g)) (upd st.part a.kind (part_with st a) k)
    parts-after k l =
        subst (λ (t : ℕ). PartIn store' k t (upd st.part a.kind (part_with st a) k)) (sym (stamp-more s st a g S.good E)) (go (ℕ_discrete a.kind k))
      where
        go : Dec (a.kind ≡ k) → PartIn store' k (suc (stamp_of st.blocks)) (upd st.part a.kind (part_with st a) k)
        go (yes q) = rw (eq-eqb a.kind k q) (subst (λ (j : ℕ). PartIn store' j (suc (stamp_of st.blocks)) (part_with st a)) q own-part)
        go (no q) = rw (ne_eqb a.kind k q) (other-part k l (λ r. q (sym r)))

    pub stands-added : (pages' lists' : Bytes) → StoreAt s store' pages' lists' → BlocksAt s (took s.w st.blocks a.kind g) lists'
        → Stands s (extended s st a g) pages' lists'
    unfolding extended
    stands-added pages' lists' H B =
        record { good = extended-good s st a g S.good E; store = store'; stored = H; blocked = B; parts = parts-after; spaces = A.spaces }

  -- ---- that store is the one after its inserts

  module _ (a : Name) (l : a.kind < kinds) where
    main-more : (store : Store) → store.entries (main_of a) ≡ S.store.entries (main_of a) → store.count (main_of a) ≡ S.store.count (main_of a) → (i : ℕ)
        → (inserted s store (main_of a) (key_in st a) (stamp_of st.blocks)).entries (main_of a) i
        ≡ entry_in i (key_in st a ∷ keys_of (part_of st a).heads (part_of st a).names)
    main-more store e c i =
        insert-entries s store (main_of a) (key_in st a) (stamp_of st.blocks) i
        ∙ entry_more (store.entries (main_of a)) (keys_of (part_of st a).heads (part_of st a).names) (store.count (main_of a)) (key_in st a)
        (λ j. ap (λ (f : Entries). f j) e ∙ (S.parts a.kind l).main j)
        (c ∙ main-count S a.kind l ∙ sym (length-keys (part_of st a).heads (part_of st a).names))
        i

    stamp-added : (store : Store) → store.stamp (main_of a) ≡ S.store.stamp (main_of a) → store.count (main_of a) ≡ S.store.count (main_of a) → (i : ℕ)
        → (inserted s store (main_of a) (key_in st a) (stamp_of st.blocks)).stamp (main_of a) i ≡ stamp_in i (stamped_in st a ∷ (part_of st a).names)
    stamp-added store e c i =
        insert-stamps s store (main_of a) (key_in st a) (stamp_of st.blocks) i
        ∙ stamps-more (store.stamp (main_of a)) (part_of st a).names (store.count (main_of a)) (stamped_in st a)
        (λ j. ap (λ (f : ℕ → ℕ). f j) e ∙ (S.parts a.kind l).stamps j)
        (c ∙ main-count S a.kind l)
        i

    -- The head is stored, or the kind has none.
    pub added-one : new_head a (part_of st a) ≡ false → StoreAdded s st S.store (inserted s S.store (main_of a) (key_in st a) (stamp_of st.blocks)) a
    added-one old =
        let P = S.parts a.kind l in
        let key : Bytes = key_in st a in
        let t : ℕ = stamp_of st.blocks in
        record {
          main = main-more S.store refl refl;
          stamps = stamp-added S.store refl refl;
          heads = λ p i. rw old (ap (λ (f : Entries). f i) (entries-other s S.store (main_of a) key t (heads_of a) (head_apart a.kind p)) ∙ P.heads p i);
          older = λ p i h.
              let b : i < length (part_of st a).heads = rw old at h in
              omega (arith, ap (λ (f : ℕ → ℕ). f i) (stamp-other s S.store (main_of a) key t (heads_of a) (head_apart a.kind p)), P.older p i b);
          others = λ d n m. (entries-other s S.store (main_of a) key t d n, stamp-other s S.store (main_of a) key t d n);
          spaces = λ d n.
              rw old
              (ap (λ (f : ℕ → Space). f d) (insert-spaces s S.store (main_of a) key t)
              ∙ grown-agree s S.store.space st.space (main_of a) (length key) (main-below a.kind) S.spaces d n);
        }

    -- The head is a new one, and is stored first.
    module _ (new : new_head a (part_of st a) ≡ true) where
      pair : (row a.kind).paired ≡ true
      pair = new-paired a (part_of st a) new

      -- The store with the head.
      abbrev headed : Store
      headed = inserted s S.store (heads_of a) (name_head a) (stamp_of st.blocks)

      main-beside : main_of a ≢ heads_of a
      main-beside e = head_apart a.kind pair (sym e)

      head-added : (i : ℕ) → headed.entries (heads_of a) i ≡ entry_in i (name_head a ∷ (part_of st a).heads)
      head-added i =
          insert-entries s S.store (heads_of a) (name_head a) (stamp_of st.blocks) i
          ∙ entry_more (S.store.entries (heads_of a)) (part_of st a).heads (S.store.count (heads_of a)) (name_head a) ((S.parts a.kind l).heads pair) (head-count S a.kind l pair) i

      head-older : (i : ℕ) → i < suc (length (part_of st a).heads) → headed.stamp (heads_of a) i < suc (stamp_of st.blocks)
      head-older i h =
          subst (λ (x : ℕ). x < suc (stamp_of st.blocks)) (sym (insert-stamps s S.store (heads_of a) (name_head a) (stamp_of st.blocks) i))
          (go (ℕ_discrete (S.store.count (heads_of a)) i))
        where
          go : Dec (S.store.count (heads_of a) ≡ i) → upd (S.store.stamp (heads_of a)) (S.store.count (heads_of a)) (stamp_of st.blocks) i < suc (stamp_of st.blocks)
          go (yes q) = rw (eq-eqb (S.store.count (heads_of a)) i q) (omega arith)
          go (no q) =
              let b : i < length (part_of st a).heads = omega (arith, head-count S a.kind l pair) in
              rw (ne_eqb (S.store.count (heads_of a)) i q) (omega (arith, (S.parts a.kind l).older pair i b))

      pub added-both : StoreAdded s st S.store (inserted s headed (main_of a) (key_in st a) (stamp_of st.blocks)) a
      added-both =
          let key : Bytes = key_in st a in
          let t : ℕ = stamp_of st.blocks in
          let c = count-other s S.store (heads_of a) (name_head a) t (main_of a) main-beside in
          record {
            main = main-more headed (entries-other s S.store (heads_of a) (name_head a) t (main_of a) main-beside) c;
            stamps = stamp-added headed (stamp-other s S.store (heads_of a) (name_head a) t (main_of a) main-beside) c;
            heads = λ p i. rw new (ap (λ (f : Entries). f i) (entries-other s headed (main_of a) key t (heads_of a) (head_apart a.kind p)) ∙ head-added i);
            older = λ p i h.
                let b : i < suc (length (part_of st a).heads) = rw new at h in
                subst (λ (x : ℕ). x < suc t) (sym (ap (λ (f : ℕ → ℕ). f i) (stamp-other s headed (main_of a) key t (heads_of a) (head_apart a.kind p)))) (head-older i b);
            others = λ d n m. (
              entries-other s headed (main_of a) key t d n ∙ entries-other s S.store (heads_of a) (name_head a) t d m,
              stamp-other s headed (main_of a) key t d n ∙ stamp-other s S.store (heads_of a) (name_head a) t d m,
            );
            spaces = λ d n.
                rw new
                (ap (λ (f : ℕ → Space). f d) (insert-spaces s headed (main_of a) key t)
                ∙ grown-agree s headed.space (grown_at s st.space (heads_of a) (length (name_head a))) (main_of a) (length key) (main-below a.kind)
                (λ e m.
                ap (λ (f : ℕ → Space). f e) (insert-spaces s S.store (heads_of a) (name_head a) t)
                ∙ grown-agree s S.store.space st.space (heads_of a) (length (name_head a)) (head-below a.kind) S.spaces e m)
                d
                n);
          }
