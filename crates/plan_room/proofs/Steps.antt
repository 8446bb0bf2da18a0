-- What the steps of a plan answer, from what they read. Assumes nothing.
use Prim.Native.Nat.{ℕ, zero, suc, ◌+◌, ◌*◌, ◌≤◌, ◌<◌}
use mathlib.Core.Path.{◌≡◌, refl, sym, ap, ◌∙◌}
use mathlib.Core.Logic.{inl, inr}
use mathlib.Core.Option.{Option, none, some}
use mathlib.Core.List.{[], ◌∷◌}
use native.Mathlib.Omega.{arith}
use native.Mathlib.Nat.{mul-le-mul_right, suc-mul}
use native.Mathlib.Numerals.{add-one}
use lib.ListN.{length, get_or}
use Rattle.std.specs.Prelude.{Some, Result, Ok, Err}
use lib.Dec.{leb}
use Rattle.slices.specs.Bytes.{Bytes}
use Rattle.slices.proofs.Tests.{Split, split}
use Rattle.words.specs.Words.{word_at}
use Rattle.refusals.specs.declared.Refusal.{Refusal}
use Rattle.refusals.specs.declared.Refusal.TheVariants.{Unopened}
use Rattle.layout.specs.declared.Sizes.{Sizes}
use Rattle.layout.specs.declared.Kind.{Kind}
use Rattle.layout.specs.declared.Kind.TheVariants.{Iri, Plain, Tagged, Typed}
use Rattle.layout.specs.Numbers.{kind_number}
use Rattle.layout.specs.Sizes.{kinds}
use Rattle.layout.specs.Fields.{count_at, untaken_at}
use Rattle.bytes_buffer.specs.Pages.{sum}
use Rattle.bytes_buffer.specs.Spots.{lowest_of}
use Rattle.bytes_buffer.proofs.Pages.{sum_same}
use Rattle.bytes_dictionary.specs.Reading.{count_in}
use Rattle.bytes_dictionary.proofs.Reading.{counted-by, uncounted}
use Rattle.blocks.specs.Blocks.{pick}
use Rattle.blocks.specs.Answers.{allocated, Allocates}
use Rattle.model.specs.Kinds.{row}
use Rattle.model.specs.State.{State, stamp_of}
use Rattle.memory.specs.Stands.{Stands}
use Rattle.memory.proofs.Counts.{main-counted, stamp-is}
use Rattle.plan_room.specs.Steps.{Stamps, chosen_by, Chooses, count_word, Uncounted, bad-count, bad-page}

-- ---- the next stamp

-- A count that was read in a kind's main dictionary.
pub counted-main : (s : Sizes) (lists : Bytes) (k d : ℕ) (r : Result ℕ Refusal) → d ≡ (row k).main_at → r ≡ count_in s (word_at lists (count_at d))
    → count_in s (count_word lists k) ≡ r
counted-main s lists k d r q e = ap (λ (j : ℕ). count_in s (word_at lists (count_at j))) (sym q) ∙ sym e

-- The kinds stand in the order of their numbers.
kind-at : (none-such : Kind) (i : ℕ) → i < kinds → kind_number (get_or (Iri ∷ Plain ∷ Tagged ∷ Typed ∷ []) i none-such) ≡ i
kind-at _ zero l = refl
kind-at _ (suc zero) l = refl
kind-at _ (suc (suc zero)) l = refl
kind-at _ (suc (suc (suc zero))) l = refl
kind-at _ (suc (suc (suc (suc i)))) l = absurd (omega arith)

-- A count that was read in the main dictionary of the kind at place i of all kinds.
pub counted-at : (s : Sizes) (lists : Bytes) (none-such : Kind) (i d : ℕ) (r : Result ℕ Refusal) → i < kinds
    → d ≡ (row (kind_number (get_or (Iri ∷ Plain ∷ Tagged ∷ Typed ∷ []) i none-such))).main_at
    → r ≡ count_in s (word_at lists (count_at d))
    → count_in s (count_word lists i) ≡ r
counted-at s lists none-such i d r l q e = counted-main s lists i d r (rw (kind-at none-such i l) at q) e

-- The sum so far and one count more.
pub sum_bound : (e t k n : ℕ) → t ≤ k * e → n ≤ e → t + n ≤ (k + 1) * e
sum_bound e t k n l m = let q : (k + 1) * e ≡ k * e + e = rw add-one (suc-mul k e) in omega arith

pub sum-few : (e t k : ℕ) → t ≤ k * e → k ≤ kinds → t ≤ kinds * e
sum-few e t k l m = let q : k * e ≤ kinds * e = mul-le-mul_right e m in omega arith

pub stamps-bad : (s : Sizes) (lists : Bytes) (k : ℕ) (why : Refusal) → k < kinds → count_in s (count_word lists k) ≡ Err why → Stamps s lists (Err why)
stamps-bad s lists k why l e =
    record {
      range = (uncounted s (count_word lists k) why e).0;
      right = λ pages st S.
          let f : ◌≡◌ {A = Result ℕ Refusal} (Err why) (Ok (length (st.part k).names)) = sym e ∙ main-counted S k l in
          let z : ◌≡◌ {A = ℕ} 0 1 = cc in absurd (omega arith);
    }

-- On memory that stands for a state a count's word is the number of the names.
count_word-length : {s : Sizes} {st : State} {pages lists : Bytes} (S : Stands s st pages lists) (k : ℕ) → k < kinds → count_word lists k ≡ length (st.part k).names
count_word-length {s} {st} {pages} {lists} S k l = sym (counted-by s (count_word lists k) _ (main-counted S k l)).0

pub stamps-sum : (s : Sizes) (lists : Bytes) (t : ℕ) → t ≤ kinds * s.e → t ≡ sum (count_word lists) kinds → Stamps s lists (Ok t)
stamps-sum s lists t l e =
    record {
      range = l;
      right = λ pages st S.
          let q : t ≡ stamp_of st.blocks = e ∙ sum_same (count_word lists) (λ k. length (st.part k).names) kinds (count_word-length S) ∙ sym (stamp-is S) in
          ap Ok q;
    }

-- ---- the room in the lists

pub uncounted-main : (s : Sizes) (lists : Bytes) (k f : ℕ) (why : Refusal) → count_in s (count_word lists k) ≡ Err why → Uncounted s lists k f why
uncounted-main s lists k f why e =
    let q = (uncounted s (count_word lists k) why e).0 in
    rw q (bad-count (e ∙ ap Err q))

pub unpaged : (s : Sizes) (lists : Bytes) (k f : ℕ) (why : Refusal) → lowest_of s (word_at lists untaken_at) ≡ Err why → Uncounted s lists k f why
unfolding lowest_of
unpaged s lists k f why e = go (split (leb (word_at lists untaken_at) s.n))
  where
    go : Split (leb (word_at lists untaken_at) s.n) → Uncounted s lists k f why
    go (inl p) = let q : Ok (word_at lists untaken_at) ≡ Err why = rw p at e in let z : ◌≡◌ {A = ℕ} 0 1 = cc in absurd (omega arith)
    go (inr p) =
        let q : ◌≡◌ {A = Result ℕ Refusal} (Err Unopened) (Err why) = rw p at e in
        let r : why ≡ Unopened = cc in
        rw r (bad-page (rw p))

-- ---- the block and the stamp

pub chooses-unstamped : (s : Sizes) (lists : Bytes) (k n : ℕ) (why : Refusal) → Stamps s lists (Err why) → Chooses s lists k n (Err why)
chooses-unstamped s lists k n why H =
    record {
      bounded = inl H.range;
      right = λ pages st S q.
          let f : ◌≡◌ {A = Result ℕ Refusal} (Err why) (Ok (stamp_of st.blocks)) = H.right pages st S in
          let z : ◌≡◌ {A = ℕ} 0 1 = cc in absurd (omega arith);
    }

pub chooses-block : (s : Sizes) (lists : Bytes) (k n g t : ℕ) → Allocates s lists k n (Ok (Some g)) → Stamps s lists (Ok t)
    → Chooses s lists k n (Ok (record { g = g; stamp = t }))
chooses-block s lists k n g t G H =
    record {
      bounded = (G.range.0, G.range.1, H.range);
      right = λ pages st S q. go (stamp_of st.blocks) (pick s st.blocks k) (H.right pages st S) (G.right st.blocks S.blocked q);
    }
  where
    go : (u : ℕ) (o : Option ℕ) → ◌≡◌ {A = Result ℕ Refusal} (Ok t) (Ok u) → Ok (Some g) ≡ allocated o → Ok (record { g = g; stamp = t }) ≡ chosen_by u o
    go u none f e = let z : ◌≡◌ {A = ℕ} 0 1 = cc in absurd (omega arith)
    go u (some h) f e = cc
