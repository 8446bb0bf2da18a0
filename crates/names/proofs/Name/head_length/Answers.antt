-- The head of a first part that splits is what the split says.
use Rattle.std.proofs.Common.{sym, ap, ◌∙◌}
use Rattle.layout.specs.Numbers.{kind_number}
use Rattle.kind_table.specs.Rows.{is_split}
use Rattle.names.proofs.Pairs.{iri-head}
use Rattle.names.proofs.Name.head_length.Goals as goal

pub returns-in_default : goal.returns-in_default
returns-in_default c =
    let p = c.if-not-is_split.ensures ∙ ap is_split c.of.ensures.way in
    iri-head (kind_number c.args.self.now.kind) c.args.self.now.first.now _ (sym p) (sym c.in_default.is ∙ c.rfind_hashslash_plus.ensures)

pub returns : goal.returns
returns c =
    let p = c.if-not-is_split.ensures ∙ ap is_split c.of.ensures.way in
    iri-head (kind_number c.args.self.now.kind) c.args.self.now.first.now _ (sym p) (sym c.in-Some.is ∙ c.rfind_hashslash_plus.ensures)
