-- Demand 3 of lists of calls that bring slices of their own, each with the dictionary as the call before left it. Assumes nothing.
use mathlib.Core.Path.{◌≡◌, refl}
use mathlib.Core.Logic.{inl}
use mathlib.Core.List.{List, [], ◌∷◌}
use Rattle.slices.specs.Bytes.{Bytes}
use Rattle.refusals.specs.declared.Refusal.TheVariants.{Unopened}
use Rattle.layout.specs.declared.Sizes.{Sizes}
use Rattle.model.specs.Answers.{OpenAnswer}
use Rattle.model.specs.State.{State, opened}
use Rattle.model.specs.Calls.{Event, add, find, read, count, effects, Before, nothing, before_of, fresh_names, Demand3}
use Rattle.model.specs.Runs.{RefusedFor, Step, Runs}
use Rattle.model.specs.Order.{ordered}
use Rattle.model.proofs.Never.{never-unopened}
use Rattle.model.proofs.Lists.{lists-from, demand-3 as opened-demand, stands-for as opened-stands-for}
use Rattle.memory.specs.Stands.{Stands}
use Rattle.memory.specs.Promises.{OpenPost}
use Rattle.memory.specs.Lists.{Memory, Called, Brings, Brought, Demand3After}
use Rattle.memory.proofs.Same.{stands_same}

-- ---- the promises are all that the theorem needs of a call

abbrev pub StandsIn : Sizes → State → Memory → Type 0
StandsIn s st m = Stands s st m.pages m.lists

step : (s : Sizes) (m z : Memory) (e : Event) → Called m e z → Step Memory s (StandsIn s) m e z
step s m z (add a r) c = c.whole s
step s m z (find a r) c = λ st S. (c.whole s st S, rw (c.kept.0, c.kept.1) S)
step s m z (read n x r y) c = λ st S. (c.whole s st S, rw (c.kept.0, c.kept.1) S)
step s m z (count k r) c = λ st S. (c.whole s st S, rw (c.kept.0, c.kept.1) S)

pub runs : (s : Sizes) (m z : Memory) (es : List Event) → Brought s m es z → Runs Memory s (StandsIn s) m es z
runs s m z [] b = b
runs s m z (e ∷ es) b =
    let y : Memory = b.0 in
    let c : Brings s y e z = b.2 in
    (y, runs s m y es b.1, λ st S. step s c.0 z e c.2 st (stands_same s st y c.0 c.1 S))

-- A call after the list makes a longer list.
after_list : (s : Sizes) (o : Before) (es : List Event) (z : Memory) → ((e : Event) (z' : Memory) → Brings s z e z' → Demand3 o (e ∷ es)) → Demand3After s o es z
after_list s o es z longer =
    record {
      counts = λ k r z' c. (longer (count k r) z' c).counts es k r (inl (refl, refl));
      read_name = λ n x y r a z' c. (longer (read n x r y) z' c).read_name es n x y r a (inl (refl, refl));
      read_none = λ n x y r z' c. (longer (read n x r y) z' c).read_none es n x y r (inl (refl, refl));
    }

-- ---- refusal 3

-- On memory that stands for a state no call is refused as unopened.
pub never-3 : (s : Sizes) (st : State) (m z : Memory) (e : Event) → Stands s st m.pages m.lists → Brings s m e z → ¬ RefusedFor Unopened e
never-3 s st m z e S b = never-unopened s st e (step s b.0 z e b.2 st (stands_same s st m b.0 b.1 S)).0

-- ---- from any memory that stands for a state

-- The state's names count as given before the list.
pub brought-any : (s : Sizes) (st : State) (m z : Memory) (es : List Event) → Stands s st m.pages m.lists → Brought s m es z → Demand3 (before_of s st) es
brought-any s st m z es S b = lists-from Memory s (StandsIn s) m z es (runs s m z es b) st S.good S

pub brought-any-after : (s : Sizes) (st : State) (m z : Memory) (es : List Event) → Stands s st m.pages m.lists → Brought s m es z
    → Demand3After s (before_of s st) es z
brought-any-after s st m z es S b = after_list s (before_of s st) es z (λ e z' c. brought-any s st m z' (e ∷ es) S (z, b, c))

-- ---- from open

brought-opened : (s : Sizes) (m z : Memory) (es : List Event) → Stands s opened m.pages m.lists → Brought s m es z → Demand3 (nothing s) es
brought-opened s m z es S b = opened-demand Memory s (StandsIn s) m z es (runs s m z es b) S.good.sizes S

module _ (s : Sizes) (pages lists pages₁ lists₁ : Bytes) (O : OpenPost s pages lists OpenAnswer.done pages₁ lists₁)
    (es : List Event) (z : Memory) (b : Brought s (record { pages = pages₁; lists = lists₁ }) es z) where
  abbrev begin : Memory
  begin = record { pages = pages₁; lists = lists₁ }

  fresh : Stands s opened pages₁ lists₁
  fresh = O.whole refl

  pub brought-demand-3 : Demand3 (nothing s) es
  brought-demand-3 = brought-opened s begin z es fresh b

  -- Its sentences on a count and a read after the list.
  pub brought-demand-3-after : Demand3After s (nothing s) es z
  brought-demand-3-after = after_list s (nothing s) es z (λ e z' c. brought-opened s begin z' (e ∷ es) fresh (z, b, c))

  -- The memory after the list stands for all fresh names in the order of their adds, across the kinds.
  pub brought-stands-for : (st : State) × Stands s st z.pages z.lists × (ordered st ≡ fresh_names [] (effects es))
  brought-stands-for =
      let k = opened-stands-for Memory s (StandsIn s) begin z es (runs s begin z es b) fresh.good.sizes fresh in
      (k.0, k.1, k.3)

-- Document 01: refusal 3 is never given "on a whole book as these calls left it", in such a list or after it.
pub brought-never-3 : (s : Sizes) (pages lists pages₁ lists₁ : Bytes) → OpenPost s pages lists OpenAnswer.done pages₁ lists₁
    → (es : List Event) (y z : Memory) (e : Event) → Brought s (record { pages = pages₁; lists = lists₁ }) es y → Brings s y e z → ¬ RefusedFor Unopened e
brought-never-3 s pages lists pages₁ lists₁ O es y z e b c =
    let k = brought-stands-for s pages lists pages₁ lists₁ O es y b in
    never-3 s k.0 y z e k.1 c
