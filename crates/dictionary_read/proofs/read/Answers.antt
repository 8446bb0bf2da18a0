-- The pieces that hold the number's name say what read answers and writes, once the header is checked. Assumes nothing.
use Rattle.std.proofs.Common.{◌≡◌, ℕ, arith, refl, sym, ap}
use Rattle.std.specs.Prelude.{Option, Ok}
use Rattle.std.proofs.lemmas.Result.{err_from_is_err_and}
use Rattle.slices.specs.Bytes.{Bytes}
use Rattle.layout.specs.declared.lent.Memory.{Memory}
use Rattle.layout.proofs.Ranges.{page-size}
use Rattle.locate.specs.declared.pieces.Pieces.{Pieces}
use Rattle.locate.specs.Located.{Located, LocatesName}
use Rattle.dictionary_read.proofs.Tells.{read-unopened, read_none, read-bad, read_short, read_name}
use Rattle.dictionary_read.proofs.read.Goals as goal

-- What was located in the checked memory, of the slices, and behind the `?`.
located_as : (m : Memory) {pages lists : Bytes} (number : ℕ) {r t : Located} → (m.lists.bytes.now ≡ lists) × (m.pages.now ≡ pages) → r ≡ t
    → LocatesName m.lists.layout.sizes m.pages.now m.lists.bytes.now number r
    → LocatesName m.lists.layout.sizes pages lists number t
located_as m number g e h = rw (g.0, g.1, e) at h

given : {o p : Option Pieces} → o ≡ p → ◌≡◌ {A = Located} (Ok o) (Ok p)
given e = ap (λ (o : Option Pieces). Ok o) e

pub returns-in_err-memory : goal.returns-in_err-memory
returns-in_err-memory c =
    let p = err_from_is_err_and c.from_residual.result c.from_residual.ensures.1 in
    rw (p.1, p.2) (read-unopened _ _ _ _ _ (sym c.in_err-memory.ensures.sized))

pub returns-in_err-x : goal.returns-in_err-x
returns-in_err-x c =
    let m = c.in_ok-memory.memory in
    let p = err_from_is_err_and c.from_residual-in_err-x.result c.from_residual-in_err-x.ensures.1 in
    rw (p.1, p.2)
    (read-bad _ _ m.lists.layout.sizes (sym c.in_ok-memory.ensures.sized) _ _ _ (located_as m _ c.in_ok-memory.ensures.given refl c.in_err-x.ensures))

pub returns-in_default : goal.returns-in_default
returns-in_default c =
    let m = c.in_ok-memory.memory in
    read_none _ _ m.lists.layout.sizes (sym c.in_ok-memory.ensures.sized) _ _
    (located_as m _ c.in_ok-memory.ensures.given (given c.in_default.is) c.in_ok-x.ensures)

pub overflow_add-x : goal.overflow_add-x
overflow_add-x c =
    let m = c.in_ok-memory.memory in
    let h = located_as m _ c.in_ok-memory.ensures.given (given c.in-Some.is) c.in_ok-x.ensures in
    omega (arith, h.range.small, page-size m.lists.layout.sizes m.lists.layout.in_range)

pub returns-then-buffer-x : goal.returns-then-buffer-x
returns-then-buffer-x c =
    let m = c.in_ok-memory.memory in
    read_short _ _ m.lists.layout.sizes (sym c.in_ok-memory.ensures.sized) _ _ _
    (located_as m _ c.in_ok-memory.ensures.given (given c.in-Some.is) c.in_ok-x.ensures) c.if-buffer-x.true

pub returns : goal.returns
returns c =
    let m = c.in_ok-memory.memory in
    read_name _ _ m.lists.layout.sizes (sym c.in_ok-memory.ensures.sized) _ _ _
    (located_as m _ c.in_ok-memory.ensures.given (given c.in-Some.is) c.in_ok-x.ensures) c.if-buffer-x.false _
    c.copy_name.ensures
