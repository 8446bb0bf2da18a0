-- What the search and the add of a legal name promise is add's promise, once the header and the name are checked. Assumes nothing.
use Rattle.std.proofs.Common.{◌≡◌, ◌⊎◌, inl, inr, length, refl, sym, subst}
use Rattle.std.proofs.Math.Option.{none, some}
use Rattle.std.specs.Prelude.{Ok, Err}
use Rattle.std.proofs.lemmas.Result.{err_from_is_err_and}
use Rattle.slices.specs.Bytes.{Bytes}
use Rattle.layout.specs.declared.Sizes.{Sizes}
use Rattle.header.specs.Header.{header_of}
use Rattle.refusals.specs.declared.Refusal.{Refusal}
use Rattle.refusals.proofs.Told.{told-illegal}
use Rattle.model.specs.Names.{Name, entered}
use Rattle.model.specs.Answers.{AddAnswer}
use Rattle.model.specs.Steps.{checks}
use Rattle.model.proofs.Legal.{shape-refused}
use Rattle.names.specs.Given.{given}
use Rattle.names.specs.declared.Name as Code
use Rattle.memory.specs.Promises.{AddPost}
use Rattle.search.specs.Found.{SearchEnded}
use Rattle.search.proofs.Legal.{sought-in, sought-legal, sought-refused}
use Rattle.enter.proofs.Named.{adds-known, adds-bad}
use Rattle.dictionary.proofs.Adds.{add-unopened, add-illegal, add-legal}
use Rattle.dictionary.proofs.add.Goals as goal

-- A promise for the name g is one for the name of the arguments.
for-arguments : {pages lists pages' lists' : Bytes} {r : AddAnswer} {g a : Name} → g ≡ a → AddPost pages lists g r pages' lists' → AddPost pages lists a r pages' lists'
for-arguments {pages} {lists} {pages'} {lists'} {r} e = subst (λ (x : Name). AddPost pages lists x r pages' lists') e

-- The search refused.
add-refused : (pages lists : Bytes) (s : Sizes) (e : header_of (length pages) lists ≡ Ok s) (name : Code.Name) (why : Refusal)
    → (checks s (given name) ≡ some why) ⊎ ((checks s (given name) ≡ none) × SearchEnded s pages lists (given name) (Err why))
    → AddPost pages lists (given name) (AddAnswer.refused why) pages lists
add-refused pages lists s e name why (inl i) = add-illegal pages lists s e (given name) why i
add-refused pages lists s e name why (inr h) = add-legal pages lists s e (given name) h.0 _ pages lists (adds-bad s pages lists name why h.1)

pub returns-in_err-memory : goal.returns-in_err-memory
returns-in_err-memory c =
    let p = err_from_is_err_and c.from_residual.result c.from_residual.ensures.1 in
    rw (p.1, p.2) (add-unopened _ _ (entered c.args.kind c.args.first.now c.args.second.now) _ (sym c.in_err-memory.ensures.sized))

pub returns-in_err-name : goal.returns-in_err-name
returns-in_err-name c =
    let p = err_from_is_err_and c.from_residual-in_err-name.result c.from_residual-in_err-name.ensures.1 in
    rw (p.1, p.2)
    (add-illegal _ _ _ (sym c.in_ok-memory.ensures.sized) (entered c.args.kind c.args.first.now c.args.second.now) _
    (shape-refused _ _ _ (told-illegal _ _ (sym c.in_err-name.ensures.checked))))

pub returns-in_err-found : goal.returns-in_err-found
returns-in_err-found c =
    let a = given c.in_ok-name.name in
    let N = c.in_ok-name.ensures.given in
    let g = c.in_ok-memory.ensures.given in
    let p = err_from_is_err_and c.from_residual-in_err-found.result c.from_residual-in_err-found.ensures.1 in
    rw (p.1, p.2)
    (for-arguments N
    (add-refused c.args.pages.now c.args.lists.now _ (sym c.in_ok-memory.ensures.sized) c.in_ok-name.name _
    (sought-refused _ _ _ a _ N c.in_ok-name.ensures.checked _ (rw (g.0, g.1) at c.in_err-found.ensures))))

pub returns-in-Found : goal.returns-in-Found
returns-in-Found c =
    let s = c.in_ok-memory.memory.lists.layout.sizes in
    let a = given c.in_ok-name.name in
    let N = c.in_ok-name.ensures.given in
    let g = c.in_ok-memory.ensures.given in
    let h = sought-legal s c.args.pages.now c.args.lists.now a _ N c.in_ok-name.ensures.checked _ _ c.in-Found.is (sought-in s a (Ok c.in_ok-found.found) g c.in_ok-found.ensures) in
    for-arguments N
    (add-legal _ _ s (sym c.in_ok-memory.ensures.sized) a h.0 _ _ _
    (adds-known s c.args.pages.now c.args.lists.now c.in_ok-name.name c.in-Found.local.0 h.1 _ (rw g.0 at c.known.ensures)))

pub returns-in-Missing : goal.returns-in-Missing
returns-in-Missing c =
    let s = c.in_ok-memory.memory.lists.layout.sizes in
    let a = given c.in_ok-name.name in
    let N = c.in_ok-name.ensures.given in
    let g = c.in_ok-memory.ensures.given in
    let h = sought-legal s c.args.pages.now c.args.lists.now a _ N c.in_ok-name.ensures.checked _ _ refl (sought-in s a (Ok c.in_ok-found.found) g c.in_ok-found.ensures) in
    for-arguments N (add-legal _ _ s (sym c.in_ok-memory.ensures.sized) a h.0 _ _ _ c.add_name.ensures)
