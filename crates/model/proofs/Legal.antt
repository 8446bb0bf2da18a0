-- What is known of a name that passes the checks. Assumes nothing.
use Prim.Native.Nat.{◌<◌, ◌≤◌}
use mathlib.Core.Path.{◌≡◌, refl, sym, ◌∙◌}
use mathlib.Core.Bool.{true, false, ◌&&◌, not, false≢true}
use mathlib.Core.List.{[], ◌∷◌}
use mathlib.Core.Option.{Option, none, some}
use native.Mathlib.Omega.{arith}
use borrow.Author.Tests.{ltb-false, leb-false, not-false}
use lib.Dec.{leb, ltb}
use Rattle.slices.specs.Bytes.{Bytes, is_empty}
use Rattle.slices.proofs.Tests.{and_left, and_right, or_left, or_right, passed}
use Rattle.refusals.specs.declared.Refusal.{Refusal}
use Rattle.refusals.specs.declared.Refusal.TheVariants.{BadKind, TooLong, NotText, NoTag}
use Rattle.utf8.specs.Text.{is_text}
use Rattle.layout.specs.declared.Sizes.{Sizes}
use Rattle.layout.specs.Sizes.{limit, kinds}
use Rattle.layout.proofs.Ranges.{limit-within}
use Rattle.string_dv_dict.specs.Packed.{LegalTagged}
use Rattle.model.specs.Names.{Name, size}
use Rattle.model.specs.Kinds.{row}
use Rattle.model.specs.Steps.{bad_kind, shape_refusal, text_refusal, checks}

empty : (s : Bytes) → not (is_empty s) ≡ false → s ≡ []
empty [] e = refl
empty (x ∷ s) e = absurd (false≢true (sym e))

-- Its shape.
pub record LegalShape (s : Sizes) (a : Name) : Type 0 where
  pub kind : a.kind < kinds
  pub second : (row a.kind).no_second ≡ true → a.second ≡ []
  pub size : size a ≤ limit s

pub legal-shape : (s : Sizes) (a : Name) → shape_refusal s a ≡ none → LegalShape s a
unfolding shape_refusal
legal-shape s a e =
    let p = passed (bad_kind a) BadKind _ e in
    let q = passed (ltb (limit s) (size a)) TooLong none p.1 in
    let c : ((row a.kind).no_second && not (is_empty a.second)) ≡ false = or_right (leb kinds a.kind) _ p.0 in
    record {
      kind = leb-false kinds a.kind (or_left (leb kinds a.kind) _ p.0);
      second = λ n. empty a.second (rw n at c);
      size = ltb-false _ _ q.0;
    }

-- A refusal of the shape is that of the name; a name of legal shape has that of its text.
pub shape-refused : (s : Sizes) (a : Name) (why : Refusal) → shape_refusal s a ≡ some why → checks s a ≡ some why
unfolding checks
shape-refused s a why e = rw e

pub text-decides : (s : Sizes) (a : Name) → shape_refusal s a ≡ none → checks s a ≡ text_refusal a
unfolding checks
text-decides s a e = rw e

-- So a legal name passes both.
both-pass : (s : Sizes) (a : Name) → checks s a ≡ none → (shape_refusal s a ≡ none) × (text_refusal a ≡ none)
both-pass s a e = go (shape_refusal s a) refl
  where
    go : (o : Option Refusal) → shape_refusal s a ≡ o → (shape_refusal s a ≡ none) × (text_refusal a ≡ none)
    go none h = (h, sym (text-decides s a h) ∙ e)
    go (some why) h = cc (e, shape-refused s a why h)

pub record Legal (s : Sizes) (a : Name) : Type 0 where
  pub shape : LegalShape s a
  pub first-text : is_text a.first ≡ true
  pub second-text : is_text a.second ≡ true
  pub tag : (row a.kind).needs_tag ≡ true → is_empty a.second ≡ false

pub legal : (s : Sizes) (a : Name) → checks s a ≡ none → Legal s a
unfolding text_refusal
legal s a e =
    let h = both-pass s a e in
    let r = passed (not (is_text a.first && is_text a.second)) NotText _ h.1 in
    let t = passed ((row a.kind).needs_tag && is_empty a.second) NoTag none r.1 in
    let b : (is_text a.first && is_text a.second) ≡ true = not-false _ r.0 in
    record {
      shape = legal-shape s a h.0;
      first-text = and_left (is_text a.first) _ b;
      second-text = and_right (is_text a.first) _ b;
      tag = λ n. rw n at t.0;
    }

pub legal-kind : (s : Sizes) (a : Name) → checks s a ≡ none → a.kind < kinds
legal-kind s a e = (legal s a e).shape.kind

-- The parts of a kind with a tag are a tagged string.
pub legal-pair : (s : Sizes) (a : Name) → checks s a ≡ none → (row a.kind).needs_tag ≡ true → LegalTagged a.first a.second
legal-pair s a e n =
    let l = legal s a e in
    record { size = omega (arith, l.shape.size, limit-within s); text-is = l.first-text; tag_is = l.second-text; tagged = l.tag n }
