-- The search and the blocks say what find answers, once the header and the name are checked. Assumes nothing.
use Rattle.std.proofs.Common.{◌≡◌, ◌⊎◌, inl, inr, length, sym, subst}
use Rattle.std.proofs.Math.Option.{none, some}
use Rattle.std.specs.Prelude.{Ok, Err}
use Rattle.std.proofs.lemmas.Result.{err_from_is_err_and}
use Rattle.refusals.specs.declared.Refusal.{Refusal}
use Rattle.refusals.proofs.Told.{told-illegal}
use Rattle.slices.specs.Bytes.{Bytes}
use Rattle.layout.specs.declared.Sizes.{Sizes}
use Rattle.header.specs.Header.{header_of}
use Rattle.model.specs.Names.{Name, entered}
use Rattle.model.specs.Answers.{FindAnswer}
use Rattle.model.specs.Steps.{checks}
use Rattle.model.proofs.Legal.{shape-refused}
use Rattle.names.specs.Given.{given}
use Rattle.search.specs.declared.Search.TheVariants.{Found, Missing}
use Rattle.search.specs.Found.{SearchEnded}
use Rattle.search.proofs.Ends.{tells, search-refused}
use Rattle.search.proofs.Legal.{sought-in, sought-legal, sought-refused}
use Rattle.memory.specs.Promises.{FindPost}
use Rattle.dictionary_find.proofs.Finds.{find-unopened, find-illegal, find-known, find-bad-number, find_none, find-bad}
use Rattle.dictionary_find.proofs.find.Goals as goal

-- What is promised of the name is promised of the arguments.
as-given : (pages lists : Bytes) (a b : Name) (r : FindAnswer) → a ≡ b → FindPost pages lists a r pages lists → FindPost pages lists b r pages lists
as-given pages lists a b r e = subst (λ (x : Name). FindPost pages lists x r pages lists) e

-- The search refused.
find-refused : (pages lists : Bytes) (s : Sizes) (e : header_of (length pages) lists ≡ Ok s) (a : Name) (why : Refusal)
    → (checks s a ≡ some why) ⊎ ((checks s a ≡ none) × SearchEnded s pages lists a (Err why))
    → FindPost pages lists a (FindAnswer.refused why) pages lists
find-refused pages lists s e a why (inl i) = find-illegal pages lists s e a why i
find-refused pages lists s e a why (inr h) =
    find-bad pages lists s e a h.0 (search-refused s pages lists a.kind _ _ h.1) (λ st S. tells S a h.0 (Err why) h.1)

pub returns-in_err-memory : goal.returns-in_err-memory
returns-in_err-memory c =
    let p = err_from_is_err_and c.from_residual.result c.from_residual.ensures.1 in
    rw (p.1, p.2) (find-unopened _ _ (entered c.args.kind c.args.first.now c.args.second.now) (sym c.in_err-memory.ensures.sized))

pub returns-in_err-name : goal.returns-in_err-name
returns-in_err-name c =
    let p = err_from_is_err_and c.from_residual-in_err-name.result c.from_residual-in_err-name.ensures.1 in
    rw (p.1, p.2)
    (find-illegal _ _ _ (sym c.in_ok-memory.ensures.sized) (entered c.args.kind c.args.first.now c.args.second.now) _
    (shape-refused _ _ _ (told-illegal _ _ (sym c.in_err-name.ensures.checked))))

pub returns-in_err-found : goal.returns-in_err-found
returns-in_err-found c =
    let a = given c.in_ok-name.name in
    let N = c.in_ok-name.ensures.given in
    let g = c.in_ok-memory.ensures.given in
    let p = err_from_is_err_and c.from_residual-in_err-found.result c.from_residual-in_err-found.ensures.1 in
    rw (p.1, p.2)
    (as-given _ _ _ _ _ N
    (find-refused c.args.pages.now c.args.lists.now _ (sym c.in_ok-memory.ensures.sized) a _
    (sought-refused _ _ _ a _ N c.in_ok-name.ensures.checked _ (rw (g.0, g.1) at c.in_err-found.ensures))))

pub returns-in_err-number-in-Found : goal.returns-in_err-number-in-Found
returns-in_err-number-in-Found c =
    let a = given c.in_ok-name.name in
    let N = c.in_ok-name.ensures.given in
    let g = c.in_ok-memory.ensures.given in
    let h = sought-legal _ c.args.pages.now c.args.lists.now a _ N c.in_ok-name.ensures.checked _ _ c.in-Found.is (sought-in c.in_ok-memory.memory.lists.layout.sizes a (Ok c.in_ok-found.found) g c.in_ok-found.ensures) in
    let p = err_from_is_err_and c.from_residual-in_err-number-in-Found.result c.from_residual-in_err-number-in-Found.ensures.1 in
    rw (p.1, p.2)
    (as-given _ _ _ _ _ N
    (find-bad-number _ _ _ (sym c.in_ok-memory.ensures.sized) a h.0 _ (λ st S. tells S a h.0 (Ok (Found c.in-Found.local)) h.1) (rw g.0 at c.in_err-number-in-Found.ensures)))

pub returns-in_ok-number-in-Found : goal.returns-in_ok-number-in-Found
returns-in_ok-number-in-Found c =
    let a = given c.in_ok-name.name in
    let N = c.in_ok-name.ensures.given in
    let g = c.in_ok-memory.ensures.given in
    let h = sought-legal _ c.args.pages.now c.args.lists.now a _ N c.in_ok-name.ensures.checked _ _ c.in-Found.is (sought-in c.in_ok-memory.memory.lists.layout.sizes a (Ok c.in_ok-found.found) g c.in_ok-found.ensures) in
    as-given _ _ _ _ _ N
    (find-known _ _ _ (sym c.in_ok-memory.ensures.sized) a h.0 _ (λ st S. tells S a h.0 (Ok (Found c.in-Found.local)) h.1) _ (rw g.0 at c.in_ok-number-in-Found.ensures))

pub returns-in-Missing-Key : goal.returns-in-Missing-Key
returns-in-Missing-Key c =
    let a = given c.in_ok-name.name in
    let N = c.in_ok-name.ensures.given in
    let g = c.in_ok-memory.ensures.given in
    let h = sought-legal _ c.args.pages.now c.args.lists.now a _ N c.in_ok-name.ensures.checked _ _ c.in-Missing-Key.is (sought-in c.in_ok-memory.memory.lists.layout.sizes a (Ok c.in_ok-found.found) g c.in_ok-found.ensures) in
    as-given _ _ _ _ _ N (find_none _ _ _ (sym c.in_ok-memory.ensures.sized) a h.0 (λ st S. tells S a h.0 (Ok (Missing c.in-Missing-Key.field-0)) h.1))
