-- The lookup's answer, in the pages that are lent.
use Rattle.std.specs.Prelude as Rust
use Rattle.std.specs.Prelude.{Some, None, Ok, Err}
use Rattle.std.proofs.Common.{ℕ, ◌≡◌, ap, ◌∙◌, arith}
use Rattle.std.proofs.lemmas.Result.{err_from_is_err_and}
use Rattle.slices.specs.Bytes.{Bytes}
use Rattle.layout.specs.declared.Sizes.{Sizes}
use Rattle.bytes_index.specs.declared.Span.{Span}
use Rattle.bytes_dictionary.specs.Reading.{Lookup, entry_given, Looked, SpanLookup, lookup_in, LookedUp}
use Rattle.bytes_dictionary.proofs.Looked.{looked-in}
use Rattle.bytes_dictionary.proofs.id_to_bytes.Goals as goal

-- The lookup behind the `?`.
looked_as : (s : Sizes) (d i : ℕ) (lists : Bytes) (o p : Rust.Option Span) → o ≡ p → LookedUp s d i lists (Ok o) → LookedUp s d i lists (Ok p)
looked_as s d i lists o p e h = rw e at h

given : (s : Sizes) (d i : ℕ) (pages lists : Bytes) (r : SpanLookup) (q : Lookup) → q ≡ lookup_in pages r → LookedUp s d i lists r → Looked s d i pages lists q
given s d i pages lists r q e h = rw e (looked-in s d i pages lists r h)

pub returns-in_err-span : goal.returns-in_err-span
returns-in_err-span c =
    let m = c.args.memory.now in
    let f = err_from_is_err_and c.from_residual.result c.from_residual.ensures.1 in
    given m.lists.layout.sizes _ _ m.pages.now m.lists.bytes.now _ _ (ap entry_given f.1 ∙ ap Err f.2) c.in_err-span.ensures

pub returns-in_default : goal.returns-in_default
returns-in_default c =
    let m = c.args.memory.now in
    looked-in m.lists.layout.sizes _ _ m.pages.now m.lists.bytes.now (Ok None) (looked_as m.lists.layout.sizes _ _ _ _ _ c.in_default.is c.in_ok-span.ensures)

pub bytes_at-stored-requires : goal.bytes_at-stored-requires
bytes_at-stored-requires c =
    let m = c.args.memory.now in
    let u = looked_as m.lists.layout.sizes _ _ _ _ _ c.in-Some.is c.in_ok-span.ensures in
    omega (arith, u.inside, m.fit)

pub returns : goal.returns
returns c =
    let m = c.args.memory.now in
    let u = looked_as m.lists.layout.sizes _ _ _ _ _ c.in-Some.is c.in_ok-span.ensures in
    given m.lists.layout.sizes _ _ m.pages.now m.lists.bytes.now (Ok (Some c.in-Some.span)) _ (ap (λ (x : Bytes). Ok (Some x)) c.bytes_at-stored.ensures) u
