-- What a plan answers, from what was read for it. Assumes nothing.
use Prim.Native.Nat.{ℕ, ◌≤◌, ◌<◌}
use mathlib.Core.Path.{◌≡◌, refl, sym, ap, subst, ◌∙◌}
use mathlib.Core.Logic.{◌⊎◌, inl, inr}
use mathlib.Core.Bool.{Bool, true, false, false≢true}
use mathlib.Core.Option.{Option, none, some}
use native.Mathlib.Omega.{arith}
use lib.ListN.{length}
use Rattle.std.specs.Prelude.{Some, None, is_some, unwrap_or, option_map, Result, Ok, Err}
use Rattle.std.specs.Option.{option_and}
use Rattle.std.specs.Prelude as Rust
use Rattle.slices.specs.Bytes.{Bytes}
use Rattle.words.specs.Words.{word_at}
use Rattle.refusals.specs.declared.Refusal.{Refusal}
use Rattle.refusals.specs.declared.Refusal.TheVariants as W
use Rattle.layout.specs.declared.Sizes.{Sizes}
use Rattle.layout.specs.Sizes.{kinds, page_size}
use Rattle.layout.specs.Fields.{untaken_at}
use Rattle.bytes_buffer.specs.declared.Spot.{Spot}
use Rattle.bytes_buffer.specs.Pages.{all_pages}
use Rattle.bytes_buffer.specs.Spots.{lowest_of, spot_in, InPages, untaken_after}
use Rattle.bytes_dictionary.specs.Reading.{count_in}
use Rattle.bytes_dictionary.proofs.Written.{plan-room}
use Rattle.blocks.specs.Blocks.{pick}
use Rattle.model.specs.Kinds.{row}
use Rattle.model.specs.State.{State, stamp_of}
use Rattle.memory.specs.Stands.{Stands}
use Rattle.memory.specs.Promises.{NumberWithin}
use Rattle.memory.proofs.Probes.{main-below, head-below}
use Rattle.memory.proofs.Counts.{main-counted, next-count, lowest-is-known, spot-pageless}
use Rattle.plan_room.specs.declared.Chosen.{Chosen}
use Rattle.plan_room.specs.declared.Head.{Head}
use Rattle.plan_room.specs.Steps.{is_new, head_number, head_size, some_spot, head_spot_at, PlansHead, chosen_by, Chooses, count_word, Counts, Uncounted, bad-count, full-list, bad-page}
use Rattle.plan.specs.declared.Plan.{Plan}
use Rattle.plan.specs.Plans.{head_spot, main_spot, NoRoom, full, headless, pageless, blockless, Plans, PlansWith}

-- A refusal for want of a page is a plan's refusal.
page-within : (s : Sizes) (u n : ℕ) (why : Refusal) → InPages s u n (Err why) → (why ≡ W.Unopened) ⊎ NumberWithin 8 10 why
page-within s u n why (inl q) = inr (rw q.0)
page-within s u n why (inr q) = inl q

module _ (s : Sizes) (lists : Bytes) (k : ℕ) (new : Bool) (f size len : ℕ) (l : k < kinds) where
  -- ---- the refusals before a spot is planned

  number_is : {pages : Bytes} {st : State} (S : Stands s st pages lists) (n : ℕ) → count_in s (count_word lists k) ≡ Ok n → n ≡ length (st.part k).names
  number_is {pages} {st} S n e = let f : ◌≡◌ {A = Result ℕ Refusal} (Ok n) (Ok (length (st.part k).names)) = sym e ∙ main-counted S k l in cc

  plans-uncounted : count_in s (count_word lists k) ≡ Err W.Unopened → Plans s lists k new f size len (Err W.Unopened)
  plans-uncounted e =
      record {
        bounded = inl refl;
        right = λ pages st S.
            let f : ◌≡◌ {A = Result ℕ Refusal} (Err W.Unopened) (Ok (length (st.part k).names)) = sym e ∙ main-counted S k l in
            let z : ◌≡◌ {A = ℕ} 0 1 = cc in absurd (omega arith);
      }

  plans-full : (n : ℕ) → count_in s (count_word lists k) ≡ Ok n → (s.e ≤ n) ⊎ (s.e ≤ f) → Plans s lists k new f size len (Err W.ListFull)
  plans-full n e o = record { bounded = inr refl; right = λ pages st S. full (go (number_is S n e) o) }
    where
      go : {m : ℕ} → n ≡ m → (s.e ≤ n) ⊎ (s.e ≤ f) → (s.e ≤ m) ⊎ (s.e ≤ f)
      go q (inl g) = inl (omega arith)
      go q (inr g) = inr g

  plans-unpaged : lowest_of s (word_at lists untaken_at) ≡ Err W.Unopened → Plans s lists k new f size len (Err W.Unopened)
  plans-unpaged e =
      record {
        bounded = inl refl;
        right = λ pages st S.
            let f : ◌≡◌ {A = Result ℕ Refusal} (Err W.Unopened) (Ok (all_pages st.space)) = sym e ∙ lowest-is-known S in
            let z : ◌≡◌ {A = ℕ} 0 1 = cc in absurd (omega arith);
      }

  pub plans-roomless : (why : Refusal) → Uncounted s lists k f why → Plans s lists k new f size len (Err why)
  plans-roomless _ (bad-count e) = plans-uncounted e
  plans-roomless _ (full-list n e o) = plans-full n e o
  plans-roomless _ (bad-page e) = plans-unpaged e

  module _ (n u : ℕ) (F : Counts s lists k f n u) where
    room-is : {pages : Bytes} {st : State} → Stands s st pages lists → length (st.part k).names < s.e
    room-is S = omega (arith, number_is S n F.counted, F.room)

    pages-is : {pages : Bytes} {st : State} → Stands s st pages lists → all_pages st.space ≡ u
    pages-is {pages} {st} S = let f : ◌≡◌ {A = Result ℕ Refusal} (Ok u) (Ok (all_pages st.space)) = sym F.lowest ∙ lowest-is-known S in cc

    -- ---- the head has no spot

    pub plans-headless : (why : Refusal) → PlansHead s lists k new u size (Err why) → Plans s lists k new f size len (Err why)
    plans-headless why H =
        record {
          bounded = page-within s u size why H.2;
          right = λ pages st S.
              let q : why ≡ W.NoPage = spot-pageless S (row k).heads_at u size (head-below k) H.1 in
              rw q (headless (room-is S) F.head-room H.0 (rw H.0 (ap some_spot (ap (λ (v : ℕ). spot_in s (word_at lists) (row k).heads_at v size) (pages-is S) ∙ H.1 ∙ ap Err q))));
        }

    -- ---- the head's spot is planned, if it is to be entered

    module _ (head : Rust.Option Spot) (H : PlansHead s lists k new u size (Ok head)) where
      head-is : {pages : Bytes} {st : State} → Stands s st pages lists → head_spot s st lists k new size ≡ Ok head
      head-is S = ap (λ (v : ℕ). head_spot_at s lists k new v size) (pages-is S) ∙ H.0

      -- ---- and then the key's

      -- The key's spot, planned in the dictionary d from the page v.
      module _ (d v : ℕ) (p : d ≡ (row k).main_at) (q : v ≡ untaken_after u head) where
        main-is : {pages : Bytes} {st : State} → Stands s st pages lists → {r : Result Spot Refusal} → r ≡ spot_in s (word_at lists) d v len → main_spot s st lists k head len ≡ r
        main-is {pages} {st} S e =
            ap (λ (j : ℕ). spot_in s (word_at lists) (row k).main_at (untaken_after j head) len) (pages-is S)
            ∙ ap (λ (j : ℕ). spot_in s (word_at lists) (row k).main_at j len) (sym q)
            ∙ ap (λ (j : ℕ). spot_in s (word_at lists) j v len) (sym p)
            ∙ sym e

        pub plans-pageless : (why : Refusal) → Err why ≡ spot_in s (word_at lists) d v len → InPages s v len (Err why) → Plans s lists k new f size len (Err why)
        plans-pageless why e b =
            record {
              bounded = page-within s v len why b;
              right = λ pages st S.
                  let m = main-is S e in
                  let q : why ≡ W.NoPage = spot-pageless S (row k).main_at (untaken_after (all_pages st.space) head) len (main-below k) m in
                  rw q (pageless (room-is S) F.head-room head (head-is S) (m ∙ ap Err q));
            }

        module _ (spot : Spot) (e : Ok spot ≡ spot_in s (word_at lists) d v len) (b : InPages s v len (Ok spot)) where
          chosen_is : (r : Result Chosen Refusal) → Chooses s lists k n r → {pages : Bytes} {st : State} (S : Stands s st pages lists)
              → r ≡ chosen_by (stamp_of st.blocks) (pick s st.blocks k)
          chosen_is r C {pages} {st} S = C.right pages st S (next-count S k ∙ sym (number_is S n F.counted))

          pub plans-blockless : (why : Refusal) → Chooses s lists k n (Err why) → Plans s lists k new f size len (Err why)
          plans-blockless why C =
              record { bounded = bound C.bounded; right = λ pages st S. go S (stamp_of st.blocks) (pick s st.blocks k) refl (chosen_is _ C S) }
            where
              bound : (why ≡ W.Unopened) ⊎ (why ≡ W.NoBlock) → (why ≡ W.Unopened) ⊎ NumberWithin 8 10 why
              bound (inl q) = inl q
              bound (inr q) = inr (rw q)

              go : {pages : Bytes} {st : State} (S : Stands s st pages lists) (t : ℕ) (o : Option ℕ) → pick s st.blocks k ≡ o → Err why ≡ chosen_by t o
                  → NoRoom s st lists k new f size len why
              go {pages} {st} S t none p c =
                  let q : W.NoBlock ≡ why = cc in
                  subst (NoRoom s st lists k new f size len) q (blockless (room-is S) F.head-room head spot (head-is S) (main-is S e) p)
              go {pages} {st} S t (some g) p c = let z : ◌≡◌ {A = ℕ} 0 1 = cc in absurd (omega arith)

          pub plans-ready : (x : Chosen) → len ≤ page_size s → Chooses s lists k n (Ok x)
              → Plans s lists k new f size len (Ok (record { n = n; head = head; spot = spot; g = x.g; stamp = x.stamp }))
          plans-ready x short C =
              record {
                bounded = record {
                  heads = F.head-room;
                  number = F.room;
                  head = H.1;
                  room = plan-room s v len spot short b;
                  block = C.bounded.0;
                  local = C.bounded.1;
                  stamp = C.bounded.2;
                };
                right = λ pages st S.
                    let r = go (stamp_of st.blocks) (pick s st.blocks k) (chosen_is _ C S) in
                    record { number = number_is S n F.counted; head = head-is S; spot = main-is S e; block = r.0; stamp = r.1 };
              }
            where
              go : (t : ℕ) (o : Option ℕ) → ◌≡◌ {A = Result Chosen Refusal} (Ok x) (chosen_by t o) → (o ≡ some x.g) × (x.stamp ≡ t)
              go t none c = let z : ◌≡◌ {A = ℕ} 0 1 = cc in absurd (omega arith)
              go t (some h) c = let q : x ≡ record { g = h; stamp = t } = cc in (ap some (sym (ap (λ (y : Chosen). y.g) q)), ap (λ (y : Chosen). y.stamp) q)

-- ---- a head with a number, and with a size if it is a new one

-- The head has the size n, or it is not a new one.
abbrev pub MayHave : Rust.Option ℕ → ℕ → Type 0
MayHave (Some x) n = x ≡ n
MayHave None n = Unit {0}

-- The plan for each size that the head may have.
pub plans-with : (s : Sizes) (lists : Bytes) (k f : ℕ) (size : Rust.Option ℕ) (len : ℕ) (r : Result Plan Refusal)
    → ((n : ℕ) → MayHave size n → Plans s lists k (is_some size) f n len r)
    → PlansWith s lists k f size len r
plans-with s lists k f (Some x) len r h = h x refl
plans-with s lists k f None len r h = λ n. h n tt

-- Where no head is new, its size is no matter.
unsized : (s : Sizes) (lists : Bytes) (k u m n : ℕ) (r : Result (Rust.Option Spot) Refusal) → PlansHead s lists k false u m r → PlansHead s lists k false u n r
unsized s lists k u m n (Ok None) H = H
unsized s lists k u m n (Ok (Some spot)) H = absurd (false≢true H.1.0)
unsized s lists k u m n (Err why) H = absurd (false≢true H.0)

-- The head that is planned for fits a page, and what was planned for it is the plan for the head's size.
pub head-paged : (m : ℕ) (size : Rust.Option ℕ) (x : Head) (head : Rust.Option Head) → x.size ≡ unwrap_or size 0 → head ≡ option_and size (Some x)
    → unwrap_or size 0 ≤ m
    → head_size head ≤ m
head-paged m (Some y) x head p e h = subst (λ (h : Rust.Option Head). head_size h ≤ m) (sym e) (omega arith)
head-paged m None x head p e h = subst (λ (h : Rust.Option Head). head_size h ≤ m) (sym e) h

pub head-sized : (s : Sizes) (lists : Bytes) (k u n : ℕ) (size : Rust.Option ℕ) (x : Head) (head : Rust.Option Head) (r : Result (Rust.Option Spot) Refusal)
    → x.size ≡ unwrap_or size 0
    → head ≡ option_and size (Some x)
    → MayHave size n
    → PlansHead s lists k (is_new head) u (head_size head) r
    → PlansHead s lists k (is_some size) u n r
head-sized s lists k u n (Some y) x head r p e q H =
    subst (λ (m : ℕ). PlansHead s lists k true u m r) (p ∙ q) (subst (λ (h : Rust.Option Head). PlansHead s lists k (is_new h) u (head_size h) r) e H)
head-sized s lists k u n None x head r p e q H =
    unsized s lists k u 0 n r (subst (λ (h : Rust.Option Head). PlansHead s lists k (is_new h) u (head_size h) r) e H)

abbrev pub size_of : Head → ℕ
size_of x = x.size

-- The plan for a head, from its number and its size.
pub plans-named : (s : Sizes) (lists : Bytes) (k f : ℕ) (size : Rust.Option ℕ) (head : Rust.Option Head) (len : ℕ) (r : Result Plan Refusal)
    → f ≡ head_number head
    → size ≡ option_map size_of head
    → PlansWith s lists k f size len r
    → Plans s lists k (is_new head) (head_number head) (head_size head) len r
plans-named s lists k f size (Some x) len r p e H =
    subst (λ (v : ℕ). Plans s lists k true v x.size len r) p (subst (λ (z : Rust.Option ℕ). PlansWith s lists k f z len r) e H)
plans-named s lists k f size None len r p e H =
    subst (λ (v : ℕ). Plans s lists k false v 0 len r) p (subst (λ (z : Rust.Option ℕ). PlansWith s lists k f z len r) e H 0)
