-- The frequent id, then the head that it names. Assumes nothing.
use Rattle.std.proofs.Common.{◌≡◌, ℕ, ◌-◌, inl, inr, refl, sym, ap, ◌∙◌, length, take, drop, rules}
use Rattle.std.specs.Prelude.{Option, Ok}
use Rattle.std.specs.Borrow.{Bor}
use Rattle.slices.specs.Bytes.{Bytes}
use Rattle.layout.specs.declared.Sizes.{Sizes}
use Rattle.layout.specs.Numbers.{kind_number}
use Rattle.bytes_dictionary.specs.Reading.{bytes_lent, Looked}
use Rattle.string_dv_dict_split.proofs.PackedParts.{to_end}
use Rattle.model.specs.Kinds.{row}
use Rattle.kind_table.specs.Rows.{is_split}
use Rattle.locate.proofs.Pairs.{read_fits, Moved, bad-lead, no-head, located-pair}
use Rattle.locate.proofs.locate_pair.Goals as goal
use Rattle.locate.proofs.locate_pair.Goals.{then-is_split, else-is_split}

-- The lookup of the head, in the head dictionary, behind the `?`.
looked_as : (s : Sizes) (d k v : ℕ) (pages lists : Bytes) (o p : Option (Bor Bytes)) → d ≡ (row k).heads_at → o ≡ p → Looked s d v pages lists (Ok (bytes_lent o))
    → Looked s (row k).heads_at v pages lists (Ok (bytes_lent p))
looked_as s d k v pages lists o p e f h = rw (e, f) at h

pub returns-in_default : goal.returns-in_default
returns-in_default c = bad-lead _ _ _ _ c.args.kind c.requires.0 _ (sym c.in_default.ensures)

pub returns-in_default-2 : goal.returns-in_default-2
returns-in_default-2 c =
    let m = c.args.memory.now in
    no-head m.lists.layout.sizes _ _ _ c.args.kind c.requires.0 _ (sym c.in-Ok.ensures)
    (looked_as m.lists.layout.sizes _ (kind_number c.args.kind) _ m.pages.now m.lists.bytes.now _ _ c.of-row.ensures.heads_at c.in_default-2.is c.in_ok-head.ensures)
    _ (search rules)

pub slice_bounds-rest-count : goal.slice_bounds-rest-count
slice_bounds-rest-count c = read_fits c.args.stored.now _ (sym c.in-Ok.ensures)

pub slice_bounds-rest-start : goal.slice_bounds-rest-start
slice_bounds-rest-start c = read_fits c.args.stored.now _ (sym c.in-Ok.ensures)

pub returns : goal.returns
returns c =
    let m = c.args.memory.now in
    let b = c.args.stored.now in
    let n = c.in-Ok.field-0.length in
    let rest : Bytes = take (length b - n) (drop n b) in
    let e = ap is_split (sym c.of-row.ensures.way) ∙ sym c.is_split.ensures in
    let moved : Moved (row (kind_number c.args.kind)).way (length rest) c.if-is_split.moved =
    elim c.if-is_split.branch [
      | then-is_split w ↦ inl (e ∙ w.if-is_split.true, w.moved-is)
      | else-is_split w ↦ inr (e ∙ w.if-is_split.false, w.moved-is)
    ] in
    located-pair m.lists.layout.sizes _ _ _ c.args.kind c.requires.0 _ (sym c.in-Ok.ensures) m.fit c.requires.1 c.in-Some.head.now rest _ (to_end b n)
    (looked_as m.lists.layout.sizes _ (kind_number c.args.kind) _ m.pages.now m.lists.bytes.now _ _ c.of-row.ensures.heads_at c.in-Some.is c.in_ok-head.ensures) moved
    _ refl refl refl refl
