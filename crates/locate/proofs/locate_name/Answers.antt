-- By the owner of the block, then by the entry. Assumes nothing.
use Rattle.std.proofs.Common.{◌≡◌, ℕ}
use Rattle.std.specs.Prelude.{Option, Ok}
use Rattle.std.specs.Borrow.{Bor}
use Rattle.std.proofs.lemmas.Result.{err_from_is_err_and}
use Rattle.slices.specs.Bytes.{Bytes}
use Rattle.layout.specs.declared.Sizes.{Sizes}
use Rattle.layout.specs.Numbers.{kind_number}
use Rattle.bytes_dictionary.specs.Reading.{bytes_lent, Looked}
use Rattle.meta_dv_dict.specs.declared.Owner.{Owner}
use Rattle.meta_dv_dict.specs.Answers.{Locals}
use Rattle.model.specs.Kinds.{row}
use Rattle.locate.proofs.Lies.{looked-in}
use Rattle.locate.proofs.Numbers.{located-free, located-entry, located-nothing}
use Rattle.locate.proofs.locate_name.Goals as goal

-- What the block says of the number, behind the `?`.
owned_as : (s : Sizes) (lists : Bytes) (number : ℕ) (o p : Option Owner) → o ≡ p → Locals s lists number (Ok o) → Locals s lists number (Ok p)
owned_as s lists number o p e h = rw e at h

-- The lookup of the entry, in the kind's dictionary, at the local number, and its answer behind the `?`.
looked_as : (s : Sizes) (d k i n : ℕ) (pages lists : Bytes) (o p : Option (Bor Bytes)) → d ≡ (row k).main_at → i ≡ n → o ≡ p
    → Looked s d i pages lists (Ok (bytes_lent o))
    → Looked s (row k).main_at n pages lists (Ok (bytes_lent p))
looked_as s d k i n pages lists o p e f g h = rw (e, f, g) at h

pub locate_entry-requires : goal.locate_entry-requires
locate_entry-requires c =
    let m = c.args.memory.now in
    looked-in m.lists.layout.sizes m.pages.now m.fit _ _ m.lists.bytes.now _
    (looked_as m.lists.layout.sizes _ (kind_number c.in-Some.field-0.kind) _ _ m.pages.now m.lists.bytes.now _ _ c.of-d.ensures.main_at c.local_to_entry.ensures c.in-Some-2.is c.in_ok-stored.ensures)

pub returns-in_default : goal.returns-in_default
returns-in_default c =
    let m = c.args.memory.now in
    located-free m.lists.layout.sizes _ _ _ (owned_as m.lists.layout.sizes _ _ _ _ c.in_default.is c.in_ok-kind.ensures)

pub returns-in_default-2 : goal.returns-in_default-2
returns-in_default-2 c =
    let m = c.args.memory.now in
    let s = m.lists.layout.sizes in
    located-nothing s _ _ _ _ (owned_as s _ _ _ _ c.in-Some.is c.in_ok-kind.ensures)
    (looked_as s _ (kind_number c.in-Some.field-0.kind) _ _ m.pages.now m.lists.bytes.now _ _ c.of-d.ensures.main_at c.local_to_entry.ensures c.in_default-2.is c.in_ok-stored.ensures)

pub returns-in_err-pieces : goal.returns-in_err-pieces
returns-in_err-pieces c =
    let m = c.args.memory.now in
    let s = m.lists.layout.sizes in
    let p = err_from_is_err_and c.from_residual-in_err-pieces.result c.from_residual-in_err-pieces.ensures.1 in
    rw (p.1, p.2)
    (located-entry s _ _ _ _ (owned_as s _ _ _ _ c.in-Some.is c.in_ok-kind.ensures) _ _
    (looked_as s _ (kind_number c.in-Some.field-0.kind) _ _ m.pages.now m.lists.bytes.now _ _ c.of-d.ensures.main_at c.local_to_entry.ensures c.in-Some-2.is c.in_ok-stored.ensures)
    c.in_err-pieces.ensures)

pub returns : goal.returns
returns c =
    let m = c.args.memory.now in
    let s = m.lists.layout.sizes in
    located-entry s _ _ _ _ (owned_as s _ _ _ _ c.in-Some.is c.in_ok-kind.ensures) _ _
    (looked_as s _ (kind_number c.in-Some.field-0.kind) _ _ m.pages.now m.lists.bytes.now _ _ c.of-d.ensures.main_at c.local_to_entry.ensures c.in-Some-2.is c.in_ok-stored.ensures)
    c.in_ok-pieces.ensures
