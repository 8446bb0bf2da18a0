-- An entry that is a first part, or a packed text and tag. Assumes nothing.
use Prim.Native.Nat.{ℕ, ◌+◌, ◌≤◌}
use mathlib.Core.Path.{◌≡◌, refl, sym, ap, ◌∙◌}
use mathlib.Core.Bool.{true}
use mathlib.Core.List.{List, [], ◌++◌, append-nil}
use mathlib.Core.Option.{none}
use native.Mathlib.Omega.{arith}
use lib.ListN.{length, length-drop}
use Rattle.std.specs.Prelude.{None, Ok, Err}
use Rattle.slices.specs.Bytes.{Bytes}
use Rattle.slices.proofs.Tests.{clash}
use Rattle.refusals.specs.declared.Refusal.TheVariants.{Unopened}
use Rattle.string_dv_dict.specs.Packed.{packed}
use Rattle.string_dv_dict.proofs.Laws.{is-legal}
use Rattle.string_dv_dict_split.specs.declared.Form.{Form}
use Rattle.string_dv_dict_split.specs.declared.Form.TheVariants.{Short, Long}
use Rattle.string_dv_dict_split.specs.declared.forms.Split.{Split}
use Rattle.string_dv_dict_split.specs.Forms.{tag_in, text_in, accepted}
use Rattle.string_dv_dict_split.specs.Scans.{split_of}
use Rattle.string_dv_dict_split.proofs.Laws.{pack-unpack}
use Rattle.string_dv_dict_split.proofs.PackedParts.{split_parts, short-length, long-low}
use Rattle.string_dv_dict_split.proofs.Splits.{short-form-of, long-form-of}
use Rattle.layout.specs.declared.Sizes.{Sizes}
use Rattle.layout.specs.Numbers.{kind_number}
use Rattle.layout.specs.declared.Kind.{Kind}
use Rattle.model.specs.Names.{Name}
use Rattle.model.specs.Kinds.{whole, packs, row}
use Rattle.model.specs.Steps.{checks, key_of}
use Rattle.model.proofs.Table.{first_only, packs_tag, no_second-row, needs-tag}
use Rattle.model.proofs.Legal.{legal, legal-pair}
use Rattle.locate.specs.declared.pieces.Told.{Told}
use Rattle.locate.specs.declared.pieces.Pieces.{Pieces}
use Rattle.locate.specs.Copied.{pieces_in}
use Rattle.locate.specs.Located.{LiesIn, EntryIn, stored_bytes, LocatesEntry}
use Rattle.locate.proofs.Lies.{part-lies}

-- Text and tag of a form that was split are no longer than the form.
pub split-small : (x : Split) → length (text_in x.bytes.now) + length (tag_in x.bytes.now) ≤ length x.bytes.now
split-small x = go x.form refl
  where
    go : (f : Form) → x.form ≡ f → length (text_in x.bytes.now) + length (tag_in x.bytes.now) ≤ length x.bytes.now
    go (Short n) e =
        let h = short-form-of x e in
        omega (arith, short-length h, ap length h.text, length-drop (n + 1) x.bytes.now, h.within)
    go (Long end n) e =
        let h = long-form-of x e in
        omega (arith, long-low h, h.tag_length, ap length h.text, length-drop (end + 2) x.bytes.now, h.within)

-- ---- the names

module _ (s : Sizes) (pages lists stored : Bytes) (kind : Kind) where
  -- What the form of a name unpacks to.
  unpacks : (row (kind_number kind)).way ≡ packs → (a : Name) (hs : List Bytes) → checks s a ≡ none → a.kind ≡ kind_number kind → stored ≡ key_of hs a
      → (accepted stored ≡ true) × (text_in stored ≡ a.first) × (tag_in stored ≡ a.second)
  unpacks w a hs p q h =
      let v : (row a.kind).way ≡ packs = ap (λ (j : ℕ). (row j).way) q ∙ w in
      let b : stored ≡ packed a.first a.second = rw v at h in
      rw b (pack-unpack a.first a.second (is-legal a.first a.second (legal-pair s a p (needs-tag a.kind (ap packs_tag v)))))

  pub located-cut : (row (kind_number kind)).way ≡ packs → split_of stored ≡ None → LocatesEntry s pages lists (kind_number kind) stored (Err Unopened)
  located-cut w e = record { range = refl; right = λ st a S p q old h. clash (unpacks w a (st.part (kind_number kind)).heads p q h).0 (split_parts stored None e) }

  module _ (entry : EntryIn s pages stored) where
    pub located-plain : (row (kind_number kind)).way ≡ whole
        → (x : Pieces) → x.told ≡ record { kind = kind; first = length stored; second = 0 } → pieces_in x ≡ stored
        → x.front.now ≡ stored → stored_bytes x.back ≡ []
        → LocatesEntry s pages lists (kind_number kind) stored (Ok x)
    located-plain w x t b f g =
        let m : x.told.first ≡ length stored = ap (λ (y : Told). y.first) t in
        let n : x.told.second ≡ 0 = ap (λ (y : Told). y.second) t in
        record {
          range = record {
            front = rw f entry.lies;
            back = part-lies s pages stored entry.lies 0 0 (omega arith) _ g;
            small = omega (arith, m, n, entry.small);
          };
          right = λ st a S p q old h.
              let v : (row a.kind).way ≡ whole = ap (λ (j : ℕ). (row j).way) q ∙ w in
              let e : a.second ≡ [] = (legal s a p).shape.second (no_second-row a.kind (ap first_only v)) in
              let i : stored ≡ a.first = rw v at h in
              record {
                kind = ap (λ (y : Told). kind_number y.kind) t ∙ sym q;
                first = m ∙ ap length i;
                second = n ∙ sym (ap length e);
                bytes = b ∙ i ∙ rw e (sym (append-nil a.first));
              };
        }

    pub located-tagged : (row (kind_number kind)).way ≡ packs → length (text_in stored) + length (tag_in stored) ≤ length stored
        → (x : Pieces) → x.told ≡ record { kind = kind; first = length (text_in stored); second = length (tag_in stored) } → pieces_in x ≡ text_in stored ++ tag_in stored
        → LiesIn s pages x.front.now → LiesIn s pages (stored_bytes x.back)
        → LocatesEntry s pages lists (kind_number kind) stored (Ok x)
    located-tagged w small x t b f g =
        let m : x.told.first ≡ length (text_in stored) = ap (λ (y : Told). y.first) t in
        let n : x.told.second ≡ length (tag_in stored) = ap (λ (y : Told). y.second) t in
        record {
          range = record { front = f; back = g; small = omega (arith, m, n, entry.small, small) };
          right = λ st a St p q old h.
              let u = unpacks w a (st.part (kind_number kind)).heads p q h in
              record {
                kind = ap (λ (y : Told). kind_number y.kind) t ∙ sym q;
                first = m ∙ ap length u.1;
                second = n ∙ ap length u.2;
                bytes = b ∙ rw (u.1, u.2) refl;
              };
        }
