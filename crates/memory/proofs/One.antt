-- A memory determines what it stands for: one memory, one dictionary of one size in one state. Assumes nothing.
use Prim.Native.Nat.{ℕ, ◌≤◌, ◌<◌}
use mathlib.Core.Path.{◌≡◌, refl, sym, ap, subst, ◌∙◌}
use mathlib.Core.Logic.{inl, inr}
use mathlib.Core.Bool.{true}
use mathlib.Core.List.{List, [], ◌∷◌}
use mathlib.Core.Option.{none, some}
use native.Mathlib.Omega.{arith}
use native.Mathlib.Decide.{ℕ_discrete, dec_lt}
use borrow.Author.Tests.{eq-eqb, ne_eqb}
use lib.ListN.{length}
use Rattle.slices.specs.Bytes.{Bytes}
use Rattle.slices.proofs.Tests.{Split, split}
use Rattle.layout.specs.declared.Sizes.{Sizes}
use Rattle.layout.specs.Sizes.{InRange, kinds, dictionaries}
use Rattle.bytes_dictionary.proofs.One.{SameDict, one_store}
use Rattle.blocks.proofs.Unique.{blocks-unique}
use Rattle.model.specs.Names.{Name}
use Rattle.model.specs.Kinds.{row}
use Rattle.model.specs.State.{Stamped, State, number_of}
use Rattle.model.specs.Steps.{key_of}
use Rattle.model.specs.Keys.{keys_of}
use Rattle.model.specs.Good.{NamesOf, Covered}
use Rattle.model.specs.Order.{ordered}
use Rattle.model.proofs.Keys.{length-keys, key-same}
use Rattle.model.proofs.Unique.{unique}
use Rattle.memory.specs.Stands.{entry_in, stamp_in, Stands}
use Rattle.memory.proofs.Probes.{main-below, head-below}
use Rattle.memory.proofs.Counts.{entry_past}

-- ---- lists known by their numbers

stamp-past : (xs : List Stamped) (i : ℕ) → length xs ≤ i → stamp_in i xs ≡ 0
stamp-past [] i h = refl
stamp-past (x ∷ xs) i h = rw (ne_eqb i (length xs) (λ e. omega arith)) (stamp-past xs i (omega arith))

entry-newest : (x : Bytes) (xs : List Bytes) → entry_in (length xs) (x ∷ xs) ≡ some x
entry-newest x xs = rw (eq-eqb (length xs) (length xs) refl)

stamp-newest : (x : Stamped) (xs : List Stamped) → stamp_in (length xs) (x ∷ xs) ≡ x.stamp
stamp-newest x xs = rw (eq-eqb (length xs) (length xs) refl)

-- Neither of two lists with the same entries is shorter.
not-shorter : (xs ys : List Bytes) → ((i : ℕ) → entry_in i xs ≡ entry_in i ys) → length ys ≤ length xs
not-shorter xs [] same = omega arith
not-shorter xs (y ∷ ys) same = go (dec_lt (length ys) (length xs))
  where
    go : Dec (length ys < length xs) → length (y ∷ ys) ≤ length xs
    go (yes h) = omega arith
    go (no h) =
        let e : none ≡ some y = sym (entry_past (length ys) xs (omega arith)) ∙ same (length ys) ∙ entry-newest y ys in cc

same_length : (xs ys : List Bytes) → ((i : ℕ) → entry_in i xs ≡ entry_in i ys) → length xs ≡ length ys
same_length xs ys same = omega (arith, not-shorter xs ys same, not-shorter ys xs (λ i. sym (same i)))

entries-one : (xs ys : List Bytes) → ((i : ℕ) → entry_in i xs ≡ entry_in i ys) → xs ≡ ys
entries-one [] [] same = refl
entries-one [] (y ∷ ys) same = absurd (omega (arith, same_length [] (y ∷ ys) same))
entries-one (x ∷ xs) [] same = absurd (omega (arith, same_length (x ∷ xs) [] same))
entries-one (x ∷ xs) (y ∷ ys) same =
    let newest : some x ≡ some y = sym (entry-newest x xs) ∙ same (length xs) ∙ ap (λ (i : ℕ). entry_in i (y ∷ ys)) long ∙ entry-newest y ys in
    let first : x ≡ y = cc in
    let rest : xs ≡ ys = entries-one xs ys (λ i. older i (ℕ_discrete i (length xs))) in
    λ i. first i ∷ rest i
  where
    long : length xs ≡ length ys
    long = let l : length (x ∷ xs) ≡ length (y ∷ ys) = same_length (x ∷ xs) (y ∷ ys) same in omega arith

    older : (i : ℕ) → Dec (i ≡ length xs) → entry_in i xs ≡ entry_in i ys
    older i (yes e) = entry_past i xs (omega arith) ∙ sym (entry_past i ys (omega (arith, long)))
    older i (no q) = rw (ne_eqb i (length xs) q, ne_eqb i (length ys) (λ e. q (e ∙ sym long))) at (same i)

-- Names of a kind are known by their keys and their stamps.
module _ (s : Sizes) (R : InRange s) (hs : List Bytes) (few : length hs ≤ s.e) (k : ℕ) where
  names-one : (t u : ℕ) (xs ys : List Stamped) → NamesOf s k t xs → NamesOf s k u ys
      → ((row k).paired ≡ true → Covered hs xs) → ((row k).paired ≡ true → Covered hs ys)
      → keys_of hs xs ≡ keys_of hs ys → ((i : ℕ) → stamp_in i xs ≡ stamp_in i ys) → xs ≡ ys
  names-one t u [] [] o p c d keys same = refl
  names-one t u [] (y ∷ ys) o p c d keys same = cc
  names-one t u (x ∷ xs) [] o p c d keys same = cc
  names-one t u (x ∷ xs) (y ∷ ys) o p c d keys same =
      let key : key_of hs x.name ≡ key_of hs y.name = cc in
      let name : x.name ≡ y.name =
      key-same s R hs few x.name y.name o.0 p.0 (o.1 ∙ sym p.1) (λ v. (c (rw o.1 at v)).0) (λ v. (d (rw p.1 at v)).0) key in
      let stamp : x.stamp ≡ y.stamp = sym (stamp-newest x xs) ∙ same (length xs) ∙ ap (λ (i : ℕ). stamp_in i (y ∷ ys)) long ∙ stamp-newest y ys in
      let rest : xs ≡ ys =
      names-one x.stamp y.stamp xs ys o.4 p.4 (λ v. (c v).1) (λ v. (d v).1) older-keys (λ i. older i (ℕ_discrete i (length xs))) in
      λ i. record { name = name i; stamp = stamp i } ∷ rest i
    where
      older-keys : keys_of hs xs ≡ keys_of hs ys
      older-keys = cc

      long : length xs ≡ length ys
      long = sym (length-keys hs xs) ∙ ap length older-keys ∙ length-keys hs ys

      older : (i : ℕ) → Dec (i ≡ length xs) → stamp_in i xs ≡ stamp_in i ys
      older i (yes e) = stamp-past xs i (omega arith) ∙ sym (stamp-past ys i (omega (arith, long)))
      older i (no q) = rw (ne_eqb i (length xs) q, ne_eqb i (length ys) (λ e. q (e ∙ sym long))) at (same i)

-- ---- two states of one memory

module _ (s : Sizes) (x y : State) (pages lists : Bytes) (S : Stands s x pages lists) (T : Stands s y pages lists) where
  stores : (d : ℕ) → d < dictionaries → SameDict S.store T.store d
  stores = one_store s S.store T.store pages lists S.stored T.stored

  module _ (k : ℕ) (h : k < kinds) where
    heads : (x.part k).heads ≡ (y.part k).heads
    heads = go (split (row k).paired)
      where
        go : Split (row k).paired → (x.part k).heads ≡ (y.part k).heads
        go (inl p) = entries-one (x.part k).heads (y.part k).heads
            (λ i. sym ((S.parts k h).heads p i) ∙ (stores (row k).heads_at (head-below k)).entries i ∙ (T.parts k h).heads p i)
        go (inr p) = (S.good.part k).headless p ∙ sym ((T.good.part k).headless p)

    keys : keys_of (x.part k).heads (x.part k).names ≡ keys_of (x.part k).heads (y.part k).names
    keys =
        entries-one (keys_of (x.part k).heads (x.part k).names) (keys_of (y.part k).heads (y.part k).names)
        (λ i. sym ((S.parts k h).main i) ∙ (stores (row k).main_at (main-below k)).entries i ∙ (T.parts k h).main i)
        ∙ ap (λ (hs : List Bytes). keys_of hs (y.part k).names) (sym heads)

    names : (x.part k).names ≡ (y.part k).names
    names =
        names-one s S.good.sizes (x.part k).heads (S.good.part k).few_heads k _ _ (x.part k).names (y.part k).names
        (S.good.part k).names (T.good.part k).names
        (S.good.part k).covered (λ p. subst (λ (hs : List Bytes). Covered hs (y.part k).names) (sym heads) ((T.good.part k).covered p))
        keys
        (λ i. sym ((S.parts k h).stamps i) ∙ (stores (row k).main_at (main-below k)).stamp i ∙ (T.parts k h).stamps i)

    part : x.part k ≡ y.part k
    part = λ i. record { names = names i; heads = heads i }

    next : x.blocks.next k ≡ y.blocks.next k
    next = (S.good.part k).numbered ∙ ap length names ∙ sym (T.good.part k).numbered

  owner : (g : ℕ) → x.blocks.owner g ≡ y.blocks.owner g
  owner g = λ i. (blocks-unique s lists x.blocks y.blocks S.blocked T.blocked next i).owner g

  state : x ≡ y
  state =
      unique s x y S.good T.good
      (record { part = part; owner = λ g l. owner g; space = λ d l. sym (S.spaces d l) ∙ (stores d l).space ∙ T.spaces d l })

-- ---- the laws

pub one_state : (s s' : Sizes) (st st' : State) (pages lists : Bytes) → Stands s st pages lists → Stands s' st' pages lists → (s ≡ s') × (st ≡ st')
one_state s s' st st' pages lists S S' =
    let e : s ≡ s' = sym S.stored.header.sizes-are ∙ S'.stored.header.sizes-are in
    (e, state s st st' pages lists S (subst (λ (z : Sizes). Stands z st' pages lists) (sym e) S'))

module _ (s s' : Sizes) (st st' : State) (pages lists : Bytes) (S : Stands s st pages lists) (S' : Stands s' st' pages lists) where
  -- All names in the order of their adds, across the kinds;
  pub one-order : ordered st ≡ ordered st'
  one-order = ap ordered (one_state s s' st st' pages lists S S').1

  -- and each name's number.
  pub one_number : (a : Name) → number_of s st a ≡ number_of s' st' a
  one_number a = let e = one_state s s' st st' pages lists S S' in λ i. number_of (e.0 i) (e.1 i) a
