-- The numbers that exported calls returned tell answers, and the promises hold of these answers. Assumes nothing.
use Prim.Native.Nat.{ℕ}
use mathlib.Core.Path.{◌≡◌, refl, sym, ap, subst, ◌∙◌}
use mathlib.Core.Logic.{inl, inr}
use mathlib.Core.List.{List, [], ◌∷◌, map}
use Rattle.slices.specs.Bytes.{Bytes}
use Rattle.layout.specs.declared.Sizes.{Sizes}
use Rattle.model.specs.Names.{Name}
use Rattle.model.specs.Answers.{AddAnswer}
use Rattle.model.specs.Calls.{Event, effect, effects, At}
use Rattle.memory.specs.Promises.{OpenPost, AddPost, FindPost, ReadPost, CountPost}
use Rattle.memory.specs.Lists.{Memory, Called, Brought}
use Rattle.numbers.specs.declared.NamedictNumbered.{NamedictNumbered}
use Rattle.numbers.specs.Numbers.{open_number, add_numbers, find_numbers, name_numbers, count_numbers}
use Rattle.numbers.specs.Answers.{open_of, add_of, find_of, read_of, count_of}
use Rattle.returned.specs.Returned.{OpenReturned, Returned, add, find, read, count, Exported, ExportedBrings, ExportedBrought, event_of}
use Rattle.returned.specs.Demand3.{effect_in, effects_in}
use Rattle.refusals.proofs.Back.{refusal-back}
use Rattle.numbers.proofs.Tell.{open-back, add_back, find-back, read_back, count-back}

-- ---- one answer: its numbers, the answer back from them, and what is promised of it

module _ {A N : Type 0} (num : A → N) (of : N → A) (back : (x : A) → of (num x) ≡ x) (P : A → Type 0) (r : N) (c : (x : A) × (r ≡ num x) × P x) where
  -- The numbers tell the answer.
  told-answer : of r ≡ c.0
  told-answer = ap of c.1 ∙ back c.0

  promised : P (of r)
  promised = subst P (sym told-answer) c.2

  -- The numbers are those of the answer that they tell.
  exact : r ≡ num (of r)
  exact = c.1 ∙ ap num (sym told-answer)

-- ---- one call

pub open-tells : (s : Sizes) (pages lists : Bytes) (r : ℕ) (pages' lists' : Bytes) → OpenReturned s pages lists r pages' lists'
    → OpenPost s pages lists (open_of r) pages' lists'
open-tells s pages lists r pages' lists' c = promised open_number open_of open-back (λ x. OpenPost s pages lists x pages' lists') r c

pub call-tells : (m m' : Memory) (e : Returned) → Exported m e m' → Called m (event_of e) m'
call-tells m m' (add a r) c = promised add_numbers add_of add_back (λ x. AddPost m.pages m.lists a x m'.pages m'.lists) r c
call-tells m m' (find a r) c = promised find_numbers find_of find-back (λ x. FindPost m.pages m.lists a x m'.pages m'.lists) r c
call-tells m m' (read n x r y) c = promised name_numbers read_of read_back (λ z. ReadPost m.pages m.lists n x z y m'.pages m'.lists) r c
call-tells m m' (count k r) c = promised count_numbers count_of count-back (λ x. CountPost m.pages m.lists k x m'.pages m'.lists) r c

-- The numbers returned are the numbers of the answer that they tell.
abbrev pub Exact : Returned → Type 0
Exact (add a r) = r ≡ add_numbers (add_of r)
Exact (find a r) = r ≡ find_numbers (find_of r)
Exact (read n b r c) = r ≡ name_numbers (read_of r)
Exact (count k r) = r ≡ count_numbers (count_of r)

exact-by : (m m' : Memory) (e : Returned) → Exported m e m' → Exact e
exact-by m m' (add a r) c = exact add_numbers add_of add_back _ r c
exact-by m m' (find a r) c = exact find_numbers find_of find-back _ r c
exact-by m m' (read n x r y) c = exact name_numbers read_of read_back _ r c
exact-by m m' (count k r) c = exact count_numbers count_of count-back _ r c

-- ---- lists

pub calls-tell : (s : Sizes) (m z : Memory) (es : List Returned) → ExportedBrought s m es z → Brought s m (map event_of es) z
calls-tell s m z [] c = c
calls-tell s m z (e ∷ es) c =
    let b : ExportedBrings s c.0 e z = c.2 in
    (c.0, calls-tell s m c.0 es c.1, (b.0, b.1, call-tells b.0 z e b.2))

-- A call of the list got the memory as the calls xs before it left it.
pub call_at : (s : Sizes) (m z : Memory) (e : Returned) (xs es : List Returned) → ExportedBrought s m es z → At e xs es
    → (y y' : Memory) × ExportedBrought s m xs y × ExportedBrings s y e y'
call_at s m z e xs [] c p = absurd p
call_at s m z e xs (x ∷ es) c (inl p) = rw (p.0, p.1) (c.0, z, c.1, c.2)
call_at s m z e xs (x ∷ es) c (inr p) = call_at s m c.0 e xs es c.1 p

pub exact-at : (s : Sizes) (m z : Memory) (e : Returned) (xs es : List Returned) → ExportedBrought s m es z → At e xs es → Exact e
exact-at s m z e xs es c p = let k = call_at s m z e xs es c p in exact-by k.3.0 k.1 e k.3.2

-- ---- what the calls did, by their numbers and by the answers that these tell

effect_of : (a : Name) (x : AddAnswer) → effect_in (add a (add_numbers x)) ≡ effect (Event.add a x)
effect_of a (AddAnswer.fresh n) = refl
effect_of a (AddAnswer.known n) = refl
effect_of a (AddAnswer.refused why) = rw (refusal-back why).1

effect-tells : (e : Returned) → Exact e → effect_in e ≡ effect (event_of e)
effect-tells (add a r) q = ap (λ (x : NamedictNumbered). effect_in (add a x)) q ∙ effect_of a (add_of r)
effect-tells (find a r) q = refl
effect-tells (read n b r c) q = refl
effect-tells (count k r) q = refl

pub effects-tell : (s : Sizes) (m z : Memory) (es : List Returned) → ExportedBrought s m es z → effects_in es ≡ effects (map event_of es)
effects-tell s m z [] c = refl
effects-tell s m z (e ∷ es) c =
    let b : ExportedBrings s c.0 e z = c.2 in
    rw (effect-tells e (exact-by b.0 z e b.2), effects-tell s m c.0 es c.1)
