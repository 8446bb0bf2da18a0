-- What an add promises, from its searches and its plan. Assumes nothing.
use Prim.Native.Nat.{ℕ, ◌+◌, ◌*◌, ◌%◌, ◌^◌, ◌≤◌, ◌<◌}
use mathlib.Core.Path.{◌≡◌, refl, sym, subst}
use mathlib.Core.Logic.{inl, inr}
use mathlib.Core.Bool.{Bool, true, false, false≢true}
use mathlib.Core.Option.{none}
use native.Mathlib.Omega.{arith}
use native.Mathlib.Nat.{mod-lt}
use lib.ListN.{length}
use lib.Pow.{pow_pos, high}
use Rattle.std.specs.Prelude.{Option, Some, None, Result, Ok, Err}
use Rattle.slices.specs.Bytes.{Bytes}
use Rattle.refusals.specs.declared.Refusal.{Refusal}
use Rattle.refusals.specs.declared.Refusal.TheVariants.{Unopened}
use Rattle.layout.specs.declared.Sizes.{Sizes}
use Rattle.layout.specs.Sizes.{InRange, page_bytes, list_bytes}
use Rattle.layout.specs.Lent.{Fit}
use Rattle.layout.proofs.Numbers.{kind-below}
use Rattle.bytes_buffer.specs.declared.Spot.{Spot}
use Rattle.bytes_index.specs.Search.{Searched}
use Rattle.bytes_index.specs.declared.Probe.TheVariants.{Free}
use Rattle.bytes_key.specs.KeyBytes.{bytes_in}
use Rattle.bytes_dictionary.specs.Written.{lists_after, pages_with, lists_with}
use Rattle.model.specs.Names.{Name}
use Rattle.model.specs.Answers.{AddAnswer}
use Rattle.model.specs.Kinds.{row}
use Rattle.model.specs.State.{State}
use Rattle.model.specs.Steps.{checks, name_head, new_head, key_of, refuse, decide, add_answer, after_add}
use Rattle.model.proofs.Table.{main-below, head-below}
use Rattle.memory.specs.Stands.{Stands}
use Rattle.memory.specs.Promises.{SameBeyond, InBlocks}
use Rattle.memory.proofs.Counts.{next-count}
use Rattle.memory.proofs.Beyond.{beyond-same, beyond-trans, insert-beyond, block-beyond}
use Rattle.memory.proofs.Entered.{enter_one, full-one, pageless-one, blockless-one, full-both, pageless-both, blockless-both, enter-both}
use Rattle.plan.specs.declared.Plan.{Plan}
use Rattle.plan.specs.Plans.{NoRoom, full, headless, pageless, blockless, ReadyName, PlanFits, Plans}
use Rattle.plan_room.specs.Steps.{is_new, head_number, some_spot, HeadFits}
use Rattle.names.specs.Given.{given}
use Rattle.names.specs.declared.Name as Code
use Rattle.commit.specs.declared.new_name.NewHead.{NewHead}
use Rattle.commit.specs.declared.new_name.NewName.{NewName}
use Rattle.commit.specs.Written.{head_in, place_in, bytes_of_head, name_pages, name_lists}
use Rattle.enter.specs.Added.{CarriedOut, EntersName, AddsName}

-- A fresh number is in its block.
fresh-in-blocks : (s : Sizes) (g n : ℕ) → g < s.b → InBlocks s (g * 2 ^ s.w + n % 2 ^ s.w)
fresh-in-blocks s g n l = rw (high g s.w (mod-lt n (pow_pos s.w))) l

-- What an add was given, at a state: is the head a new one, which one is it, its number, and the key.
pub record NewIn (st : State) (a : Name) (new : Bool) (f : ℕ) (head key : Bytes) : Type 0 where
  pub new_is : new_head a (st.part a.kind) ≡ new
  pub headed : new ≡ true → name_head a ≡ head
  pub numbered : new ≡ true → length (st.part a.kind).heads ≡ f
  pub keyed : key_of (st.part a.kind).heads a ≡ key

-- The spot of a new head is that of the plan for it.
some-spot : (r : Result Spot Refusal) (o : Option Spot) → some_spot r ≡ Ok o → (spot : Spot) × (o ≡ Some spot) × (r ≡ Ok spot)
some-spot (Ok spot) o e = (spot, cc, refl)
some-spot (Err why) o e = let z : ◌≡◌ {A = ℕ} 0 1 = cc in absurd (omega arith)

no-spot : (r : Result Spot Refusal) (why : Refusal) → some_spot r ≡ Err why → r ≡ Err why
no-spot (Ok spot) why e = let z : ◌≡◌ {A = ℕ} 0 1 = cc in absurd (omega arith)
no-spot (Err why) w e = cc

-- ---- at a state, of a legal name

module _ {s : Sizes} {st : State} {pages lists : Bytes} (S : Stands s st pages lists) (a : Name) (legal : checks s a ≡ none) (place hplace : ℕ) where
  -- The name's own head and key may have other names.
  renamed : {f : ℕ} {head key : Bytes} (N : NewIn st a true f head key) (P : ℕ → Bytes → Bytes → Type 0)
      → P (length (st.part a.kind).heads) (name_head a) (key_of (st.part a.kind).heads a) → P f head key
  renamed {f} {head} {key} N P p =
      subst (λ (n : ℕ). P n head key) (N.numbered refl)
      (subst (λ (x : Bytes). P (length (st.part a.kind).heads) x key) (N.headed refl)
      (subst (λ (y : Bytes). P (length (st.part a.kind).heads) (name_head a) y) N.keyed p))

  -- The plan found no room.
  refused : (new : Bool) (f : ℕ) (head key : Bytes) → NewIn st a new f head key → Searched s (row a.kind).main_at pages lists key (Ok (Free place)) → (new ≡ false → f < s.e)
      → (why : Refusal) → NoRoom s st lists a.kind new f (length head) (length key) why → decide s st a ≡ refuse why
  refused true f head key N q few why R =
      renamed N (λ n x y. NoRoom s st lists a.kind true n (length x) (length y) why → decide s st a ≡ refuse why) (go why) R
    where
      go : (w : Refusal) → NoRoom s st lists a.kind true (length (st.part a.kind).heads) (length (name_head a)) (length (key_of (st.part a.kind).heads a)) w
          → decide s st a ≡ refuse w
      go w (full o) = full-both S a legal N.new_is o
      go w (headless n m t e) = pageless-both S a legal N.new_is m n (inl (no-spot _ _ e))
      go w (pageless n m h e i) =
          let q = some-spot _ h e in
          pageless-both S a legal N.new_is m n (inr (q.0, q.2, rw q.1 at i))
      go w (blockless n m h spot e i b) =
          let q = some-spot _ h e in
          blockless-both S a legal N.new_is m n q.0 q.2 spot (rw q.1 at i) b
  refused false f head key N q few why R =
      subst
      (λ (y : Bytes). Searched s (row a.kind).main_at pages lists y (Ok (Free place)) → NoRoom s st lists a.kind false f (length head) (length y) why → decide s st a ≡ refuse why)
      N.keyed
      (go why)
      q
      R
    where
      go : (w : Refusal) → Searched s (row a.kind).main_at pages lists (key_of (st.part a.kind).heads a) (Ok (Free place))
          → NoRoom s st lists a.kind false f (length head) (length (key_of (st.part a.kind).heads a)) w
          → decide s st a ≡ refuse w
      go w r (full (inl h)) = full-one S a legal N.new_is place r h
      go w r (full (inr h)) = absurd (omega (arith, few refl))
      go w r (headless n m t e) = absurd (false≢true t)
      go w r (pageless n m h e i) = let q : h ≡ None = cc in pageless-one S a legal N.new_is place r n (rw q at i)
      go w r (blockless n m h spot e i b) = let q : h ≡ None = cc in blockless-one S a legal N.new_is place r n spot (rw q at i) b

  -- The memory after the writes of the plan.
  Written : Plan → ℕ → Bytes → Bytes → Type 0
  Written x f head key =
      (AddAnswer.fresh (x.g * 2 ^ s.w + x.n % 2 ^ s.w) ≡ add_answer s st a)
      × Stands s (after_add s st a) (name_pages s pages x head key) (name_lists s lists a.kind f hplace place x head key)

  written : (new : Bool) (f : ℕ) (head key : Bytes) → NewIn st a new f head key → Searched s (row a.kind).main_at pages lists key (Ok (Free place))
      → (new ≡ true → Searched s (row a.kind).heads_at pages lists head (Ok (Free hplace)))
      → {size len : ℕ} (x : Plan) → PlanFits s new f size len x → ReadyName s st lists a.kind new (length head) (length key) x
      → Written x f head key
  unfolding name_pages name_lists Written
  written true f head key N q u x F R =
      renamed N
      (λ n h y. Searched s (row a.kind).main_at pages lists y (Ok (Free place)) → Searched s (row a.kind).heads_at pages lists h (Ok (Free hplace)) → n < s.e
      → ReadyName s st lists a.kind true (length h) (length y) x
      → Written x n h y)
      (λ q u l R.
      let w = some-spot _ x.head R.head in
      let e = enter-both S
      (record {
        legal = legal;
        new = N.new_is;
        head-searched = u;
        searched = q;
        head-room = l;
        room = omega (arith, R.number, F.number);
        head-planned = w.2;
        planned = rw w.1 at R.spot;
        picked = R.block;
      }) in
      rw (w.1, e.0, R.number, R.stamp) (rw (next-count S a.kind), e.1))
      q
      (u refl)
      F.heads
      R
  written false f head key N q u x F R =
      subst
      (λ (y : Bytes). Searched s (row a.kind).main_at pages lists y (Ok (Free place)) → ReadyName s st lists a.kind false (length head) (length y) x → Written x f head y)
      N.keyed
      (λ q R.
      let w : x.head ≡ None = cc R.head in
      let e = enter_one S
      (record {
        legal = legal;
        old = N.new_is;
        searched = q;
        room = omega (arith, R.number, F.number);
        planned = rw w at R.spot;
        picked = R.block;
      }) in
      rw (w, e.0, R.number, R.stamp) (rw (next-count S a.kind), e.1))
      q
      R

-- ---- the promises

module _ (s : Sizes) (pages lists : Bytes) (name : Code.Name) where
  -- The name that is added.
  abbrev a : Name
  a = given name

  -- A refusal of memory that is no dictionary's.
  pub never : (why : Refusal) → why ≡ Unopened → ((st : State) → Stands s st pages lists → checks s a ≡ none → ⊥) → AddsName s a pages lists (AddAnswer.refused why) pages lists
  never why e f = record { bounded = inl e; kept = λ n. (refl, refl); beyond = beyond-same s pages lists; whole = λ st S legal. absurd (f st S legal) }

  -- The answer and the slices as they were left.
  as-left : {r r₁ : AddAnswer} {pages' pages₁ lists' lists₁ : Bytes} → r ≡ r₁ → pages' ≡ pages₁ → lists' ≡ lists₁ → AddsName s a pages lists r₁ pages₁ lists₁
      → AddsName s a pages lists r pages' lists'
  as-left {r} {r₁} {pages'} {pages₁} {lists'} {lists₁} e p l h =
      subst (λ (x : AddAnswer). AddsName s a pages lists x pages' lists') (sym e)
      (subst (λ (x : Bytes). AddsName s a pages lists r₁ x lists') (sym p) (subst (AddsName s a pages lists r₁ pages₁) (sym l) h))

  -- A head's spot, if there is one.
  head-beyond : (new : Bool) (o : Option Spot) (f hplace stamp : ℕ) (head : Bytes) → InRange s → Fit s pages lists → HeadFits s (length head) new o → f < s.e → hplace < 2 * s.e
      → SameBeyond s pages lists (pages_with s pages o head) (lists_with s lists (row a.kind).heads_at f hplace o stamp head)
  head-beyond new (Some spot) f hplace stamp head R L h fl hp =
      insert-beyond s pages lists (row a.kind).heads_at f hplace spot stamp head R L.pages-fit L.lists-fit (head-below a.kind) fl hp h.1
  head-beyond new None f hplace stamp head R L h fl hp = beyond-same s pages lists

  module _ (R : InRange s) (L : Fit s pages lists) (w : NewName) (kind_is : w.kind ≡ name.kind) (new_head : Option NewHead) (head_is : w.head ≡ new_head) where
    abbrev place : ℕ
    place = w.place

    abbrev key : Bytes
    key = bytes_in w.key.now

    abbrev new : Bool
    new = is_new (head_in new_head)

    abbrev f : ℕ
    f = head_number (head_in new_head)

    abbrev hplace : ℕ
    hplace = place_in new_head

    abbrev head : Bytes
    head = bytes_of_head new_head

    module _ (hp : hplace < 2 * s.e) (searched : Searched s (row a.kind).main_at pages lists key (Ok (Free place)))
        (hsearched : new ≡ true → Searched s (row a.kind).heads_at pages lists head (Ok (Free hplace)))
        (few : new ≡ false → f < s.e)
        (means : (st : State) → Stands s st pages lists → checks s a ≡ none → NewIn st a new f head key) where
      fresh : (x : Plan) → Plans s lists a.kind new f (length head) (length key) (Ok x)
          → AddsName s a pages lists (AddAnswer.fresh (x.g * 2 ^ s.w + x.n % 2 ^ s.w)) (name_pages s pages x head key)
          (name_lists s lists a.kind f hplace place x head key)
      unfolding name_pages name_lists Written
      fresh x H =
          let F = H.bounded in
          let pages₁ : Bytes = pages_with s pages x.head head in
          let lists₁ : Bytes = lists_with s lists (row a.kind).heads_at f hplace x.head x.stamp head in
          let lists₂ : Bytes = lists_after s lists₁ (row a.kind).main_at x.n place x.spot x.stamp key in
          let A = head-beyond _ x.head f hplace x.stamp head R L F.head F.heads hp in
          let pages-fit : page_bytes s ≤ length pages₁ = omega (arith, A.pages-length, L.pages-fit) in
          let lists-fit : list_bytes s ≤ length lists₁ = omega (arith, A.lists_length, L.lists-fit) in
          let B = insert-beyond s pages₁ lists₁ (row a.kind).main_at x.n place x.spot x.stamp key R pages-fit lists-fit (main-below a.kind) F.number
          searched.range
          F.room in
          let fit : list_bytes s ≤ length lists₂ = omega (arith, B.lists_length, lists-fit) in
          record {
            bounded = fresh-in-blocks s x.g x.n F.block;
            kept = λ g. absurd (g _ refl);
            beyond = beyond-trans s _ _ _ _ _ _ A
                (beyond-trans s _ _ _ _ _ _ B (block-beyond s _ _ a.kind x.n x.g R fit (kind-below name.kind) F.local F.block));
            whole = λ st S legal. written S a legal place hplace new f head key (means st S legal) searched hsearched x F (H.right pages st S);
          }

      none-entered : (why : Refusal) → Plans s lists a.kind new f (length head) (length key) (Err why)
          → AddsName s a pages lists (AddAnswer.refused why) pages lists
      none-entered why H =
          record {
            bounded = H.bounded;
            kept = λ n. (refl, refl);
            beyond = beyond-same s pages lists;
            whole = λ st S legal.
                let d = refused S a legal place hplace new f head key (means st S legal) searched few why (H.right pages st S) in
                rw d (refl, S);
          }

      pub adds : (r : AddAnswer) (pages' lists' : Bytes) → EntersName s pages lists w r pages' lists' → AddsName s a pages lists r pages' lists'
      adds r pages' lists' E = go E.plan (rw (kind_is, head_is) at E.planned) E.carried
        where
          go : (p : Result Plan Refusal) → Plans s lists a.kind new f (length head) (length key) p
              → CarriedOut s pages lists w p r pages' lists'
              → AddsName s a pages lists r pages' lists'
          go (Err why) H c = as-left c.0 c.1 c.2 (none-entered why H)
          go (Ok x) H c = as-left c.0 (rw head_is at c.1) (rw (kind_is, head_is) at c.2) (fresh x H)
