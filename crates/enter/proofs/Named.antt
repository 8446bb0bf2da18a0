-- What an add promises for a name, from where its search ended. Assumes nothing.
use Prim.Native.Nat.{ℕ}
use mathlib.Core.Path.{◌≡◌, refl, sym, ap, subst, ◌∙◌}
use mathlib.Core.Logic.{inl, inr}
use mathlib.Core.Bool.{false≢true}
use mathlib.Core.List.{◌++◌}
use mathlib.Core.Option.{none}
use native.Mathlib.Omega.{arith}
use lib.ListN.{length}
use Rattle.std.specs.Prelude.{Some, None, Result, Ok, Err}
use Rattle.slices.specs.Bytes.{Bytes}
use Rattle.words.specs.Words.{word_at}
use Rattle.refusals.specs.declared.Refusal.{Refusal}
use Rattle.refusals.specs.declared.Refusal.TheVariants.{Unopened}
use Rattle.layout.specs.declared.Sizes.{Sizes}
use Rattle.layout.specs.Sizes.{InRange}
use Rattle.layout.specs.Fields.{count_at}
use Rattle.layout.specs.Lent.{Fit}
use Rattle.layout.proofs.Numbers.{kind-below}
use Rattle.ranked_pair_dictionary.specs.FrequentId.{fid}
use Rattle.bytes_index.specs.declared.Probe.{Probe}
use Rattle.bytes_index.specs.declared.Probe.TheVariants as P
use Rattle.bytes_index.specs.Search.{Searched}
use Rattle.bytes_dictionary.specs.Reading.{count_in}
use Rattle.bytes_dictionary.proofs.Reading.{uncounted as refused-count}
use Rattle.model.specs.Names.{Name}
use Rattle.model.specs.Answers.{AddAnswer}
use Rattle.model.specs.Kinds.{row}
use Rattle.model.specs.State.{State}
use Rattle.model.specs.Steps.{checks, key_of}
use Rattle.memory.specs.Stands.{Stands}
use Rattle.memory.proofs.Probes.{main-bad}
use Rattle.memory.proofs.Counts.{head-counted}
use Rattle.memory.specs.Promises.{AddBounded}
use Rattle.memory.proofs.Beyond.{beyond-same}
use Rattle.memory.proofs.Entered.{known-one, key-new, head-missing}
use Rattle.names.specs.Given.{given}
use Rattle.names.specs.declared.Name as Code
use Rattle.bytes_key.specs.KeyBytes.{bytes_in}
use Rattle.commit.specs.declared.new_name.NewHead.{NewHead}
use Rattle.commit.specs.declared.new_name.NewName.{NewName}
use Rattle.search.specs.Found.{key_behind, KeyEnded, HeadEnded, EndedBy}
use Rattle.search.proofs.Ends.{own_key, own_new, tells}
use Rattle.commit.specs.declared.Added.{Added}
use Rattle.commit.specs.declared.Added.TheVariants.{Fresh, Known}
use Rattle.commit.specs.Answers.{added_by, KnownBounded, Knows}
use Rattle.enter.specs.Added.{EntersName, AddsName}
use Rattle.enter.proofs.Adds.{never, adds}

-- The word of the count of a kind's heads.
abbrev pub head_word : Bytes → ℕ → ℕ
head_word lists k = word_at lists (count_at (row k).heads_at)

-- A count that was read in a kind's dictionary of heads.
pub counted-head : (s : Sizes) (lists : Bytes) (k d : ℕ) (r : Result ℕ Refusal) → d ≡ (row k).heads_at → r ≡ count_in s (word_at lists (count_at d))
    → count_in s (head_word lists k) ≡ r
counted-head s lists k d r q e = ap (λ (j : ℕ). count_in s (word_at lists (count_at j))) (sym q) ∙ sym e

module _ (s : Sizes) (pages lists : Bytes) (name : Code.Name) where
  -- The name that is added.
  abbrev a : Name
  a = given name

  -- ---- nothing is written

  -- The name is stored.
  pub adds-known : (i : ℕ) (K : KeyEnded s pages lists a.kind ((row a.kind).head a) ((row a.kind).rest a) (Ok (P.At i))) (r : Result Added Refusal) → Knows s lists a.kind i r
      → AddsName s a pages lists (added_by r) pages lists
  adds-known i K r H =
      record {
        bounded = bound r H.bounded;
        kept = λ n. (refl, refl);
        beyond = beyond-same s pages lists;
        whole = λ st S legal.
            let o = own_key S a legal (Ok (P.At i)) K in
            let e = known-one S a legal o.0 i (subst (λ (y : Bytes). Searched s (row a.kind).main_at pages lists y (Ok (P.At i))) (sym o.1) K.searched) in
            rw e.0 (H.right st.blocks S.blocked e.1, S);
      }
    where
      bound : (y : Result Added Refusal) → KnownBounded s y → AddBounded s (added_by y)
      bound (Ok (Fresh n)) h = absurd h
      bound (Ok (Known n)) h = h
      bound (Err why) h = inl h

  -- The memory is no dictionary's.
  pub adds-bad : (why : Refusal) → EndedBy s pages lists a.kind ((row a.kind).head a) ((row a.kind).rest a) (Err why) → AddsName s a pages lists (AddAnswer.refused why) pages lists
  adds-bad why E = never s pages lists name why (ranged E) (λ st S legal. tells S a legal (Err why) E)
    where
      ranged : EndedBy s pages lists a.kind ((row a.kind).head a) ((row a.kind).rest a) (Err why) → why ≡ Unopened
      ranged (inl H) = H.searched.range
      ranged (inr K) = K.searched.range

  -- ---- the name is entered

  -- The head is stored, or the kind has none: one entry.
  pub adds-key : (R : InRange s) (L : Fit s pages lists) (w : NewName) → w.kind ≡ name.kind → w.head ≡ None
      → (K : KeyEnded s pages lists a.kind ((row a.kind).head a) ((row a.kind).rest a) (Ok (P.Free w.place)))
      → key_behind a.kind K.f ((row a.kind).rest a) ≡ bytes_in w.key.now
      → (r : AddAnswer) (pages' lists' : Bytes)
      → EntersName s pages lists w r pages' lists'
      → AddsName s a pages lists r pages' lists'
  adds-key R L w k n K e =
      adds s pages lists name R L w k None n (omega (arith, R.e))
      (subst (λ (y : Bytes). Searched s (row a.kind).main_at pages lists y (Ok (P.Free w.place))) e K.searched)
      (λ y. absurd (false≢true y))
      (λ y. omega (arith, R.e))
      (λ st S legal.
      let o = own_key S a legal (Ok (P.Free w.place)) K in
      record { new_is = o.0; headed = λ y. absurd (false≢true y); numbered = λ y. absurd (false≢true y); keyed = o.1 ∙ e })

  -- The head is not stored, and its search ended at hplace: the head and its pair.
  module _ (hplace : ℕ) (H : HeadEnded s pages lists a.kind ((row a.kind).head a) (Ok (P.Free hplace))) where
    pub uncounted : (why : Refusal) → count_in s (head_word lists a.kind) ≡ Err why → AddsName s a pages lists (AddAnswer.refused why) pages lists
    uncounted why e =
        never s pages lists name why (refused-count s (head_word lists a.kind) why e).0
        (λ st S legal.
        let f : ◌≡◌ {A = Result ℕ Refusal} (Err why) (Ok (length (st.part a.kind).heads)) = sym e ∙ head-counted S a.kind (kind-below name.kind) H.paired in cc)

    module _ (f : ℕ) (counted : count_in s (head_word lists a.kind) ≡ Ok f) where
      heads-are : {st : State} → Stands s st pages lists → length (st.part a.kind).heads ≡ f
      heads-are {st} S =
          let e : ◌≡◌ {A = Result ℕ Refusal} (Ok f) (Ok (length (st.part a.kind).heads)) = sym counted ∙ head-counted S a.kind (kind-below name.kind) H.paired in cc

      key-is : {st : State} → Stands s st pages lists → checks s a ≡ none → key_of (st.part a.kind).heads a ≡ fid f ++ (row a.kind).rest a
      key-is S legal = key-new S a legal (own_new S a legal hplace H) ∙ ap (λ (n : ℕ). fid n ++ (row a.kind).rest a) (heads-are S)

      -- A pair with the number that the head is about to get is never there.
      pub occupied : (r : Probe) → ((j : ℕ) → r ≡ P.Free j → ⊥) → Searched s (row a.kind).main_at pages lists (fid f ++ (row a.kind).rest a) (Ok r)
          → AddsName s a pages lists (AddAnswer.refused Unopened) pages lists
      occupied (P.At i) t q =
          never s pages lists name Unopened refl
          (λ st S legal.
          head-missing S a legal (own_new S a legal hplace H) i (subst (λ (y : Bytes). Searched s (row a.kind).main_at pages lists y (Ok (P.At i))) (sym (key-is S legal)) q))
      occupied (P.Free j) t q = absurd (t j refl)

      pub unsearched : (why : Refusal) → Searched s (row a.kind).main_at pages lists (fid f ++ (row a.kind).rest a) (Err why)
          → AddsName s a pages lists (AddAnswer.refused why) pages lists
      unsearched why q = never s pages lists name why q.range (λ st S legal. main-bad s st pages lists S a.kind (kind-below name.kind) _ q)

      pub adds-pair : (R : InRange s) (L : Fit s pages lists) (w : NewName) (z : NewHead) → w.kind ≡ name.kind → w.head ≡ Some z
          → z.f ≡ f → z.place ≡ hplace → z.bytes.now ≡ (row a.kind).head a → fid f ++ (row a.kind).rest a ≡ bytes_in w.key.now
          → Searched s (row a.kind).main_at pages lists (fid f ++ (row a.kind).rest a) (Ok (P.Free w.place))
          → (r : AddAnswer) (pages' lists' : Bytes)
          → EntersName s pages lists w r pages' lists'
          → AddsName s a pages lists r pages' lists'
      adds-pair R L w z k n numbered placed headed e q =
          adds s pages lists name R L w k (Some z) n (rw placed H.searched.range)
          (subst (λ (y : Bytes). Searched s (row a.kind).main_at pages lists y (Ok (P.Free w.place))) e q)
          (λ y. rw (placed, headed) H.searched)
          (λ y. absurd (false≢true (sym y)))
          (λ st S legal. record {
            new_is = own_new S a legal hplace H;
            headed = λ y. sym headed;
            numbered = λ y. heads-are S ∙ sym numbered;
            keyed = key-is S legal ∙ e;
          })
