-- Demand 3 over lent memory: of every list of calls whose answers and bytes are as promised. Assumes nothing.
use mathlib.Core.Path.{◌≡◌, refl}
use mathlib.Core.List.{List, [], ◌∷◌}
use Rattle.slices.specs.Bytes.{Bytes}
use Rattle.layout.specs.declared.Sizes.{Sizes}
use Rattle.model.specs.Answers.{OpenAnswer}
use Rattle.model.specs.State.{State}
use Rattle.model.specs.Calls.{Event, effects, nothing, before_of, fresh_names, Demand3}
use Rattle.model.specs.Order.{ordered}
use Rattle.memory.specs.Stands.{Stands}
use Rattle.memory.specs.Promises.{OpenPost}
use Rattle.memory.specs.Lists.{Memory, InTurn, Bringing, Called, Calls, Brought, Demand3After}
use Rattle.memory.proofs.Brought.{brought-any, brought-any-after, brought-demand-3, brought-demand-3-after, brought-stands-for}

-- ---- each call brings what the one before left

module _ {E : Type 0} (One : Memory → E → Memory → Type 0) (s : Sizes) where
  pub as-left : (m z : Memory) (e : E) → One m e z → Bringing One s m e z
  as-left m z e c = (m, record { pages-same = refl; lists-same = refl }, c)

  pub all-as-left : (m z : Memory) (es : List E) → InTurn One m es z → InTurn (Bringing One s) m es z
  all-as-left m z [] c = c
  all-as-left m z (e ∷ es) c = (c.0, all-as-left m c.0 es c.1, as-left c.0 z e c.2)

-- ---- from any memory that stands for a state

-- The state's names count as given before the list.
pub from-any : (s : Sizes) (st : State) (m z : Memory) (es : List Event) → Stands s st m.pages m.lists → Calls m es z → Demand3 (before_of s st) es
from-any s st m z es S c = brought-any s st m z es S (all-as-left Called s m z es c)

pub from-any-after : (s : Sizes) (st : State) (m z : Memory) (es : List Event) → Stands s st m.pages m.lists → Calls m es z
    → Demand3After s (before_of s st) es z
from-any-after s st m z es S c = brought-any-after s st m z es S (all-as-left Called s m z es c)

-- ---- from open

module _ (s : Sizes) (pages lists pages₁ lists₁ : Bytes) (O : OpenPost s pages lists OpenAnswer.done pages₁ lists₁)
    (es : List Event) (z : Memory) (c : Calls (record { pages = pages₁; lists = lists₁ }) es z) where
  brought : Brought s (record { pages = pages₁; lists = lists₁ }) es z
  brought = all-as-left Called s _ z es c

  pub demand-3 : Demand3 (nothing s) es
  demand-3 = brought-demand-3 s pages lists pages₁ lists₁ O es z brought

  -- Its sentences on a count and a read after the list. By `as-left` the call may get the memory as the list left it.
  pub demand-3-after : Demand3After s (nothing s) es z
  demand-3-after = brought-demand-3-after s pages lists pages₁ lists₁ O es z brought

  -- The memory after the list stands for all fresh names in the order of their adds, across the kinds.
  pub stands-for : (st : State) × Stands s st z.pages z.lists × (ordered st ≡ fresh_names [] (effects es))
  stands-for = brought-stands-for s pages lists pages₁ lists₁ O es z brought
