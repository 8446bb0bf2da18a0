-- Which bytes lie in the pages: those that an entry's word names, and each part of bytes that lie there. Assumes nothing.
use Prim.Native.Nat.{ℕ, ◌+◌, ◌-◌, ◌*◌, ◌≤◌}
use mathlib.Core.Path.{◌≡◌, refl, sym, ap, ◌∙◌}
use native.Mathlib.Omega.{arith}
use lib.ListN.{length, take, drop, length-drop}
use lib.Seq.{length-take-le}
use Rattle.std.specs.Prelude.{Some, Ok}
use Rattle.slices.specs.Bytes.{Bytes}
use Rattle.layout.specs.declared.Sizes.{Sizes}
use Rattle.layout.specs.Sizes.{page_size, page_bytes}
use Rattle.layout.specs.Fields.{page_of, offset_of, size_of}
use Rattle.layout.proofs.Ranges.{in-pages}
use Rattle.bytes_index.specs.Entries.{address_of}
use Rattle.bytes_index.specs.Field.{entry_bytes}
use Rattle.bytes_index.proofs.Stored.{field_at, field-ends}
use Rattle.bytes_dictionary.specs.Reading.{Looked}
use Rattle.string_dv_dict_split.specs.declared.Form.{Form}
use Rattle.string_dv_dict_split.specs.declared.Form.TheVariants.{Short, Long}
use Rattle.string_dv_dict_split.specs.declared.forms.Split.{Split}
use Rattle.string_dv_dict_split.specs.declared.forms.Piece.{Piece}
use Rattle.string_dv_dict_split.specs.declared.forms.Piece.TheVariants.{Raw, Escaped}
use Rattle.string_dv_dict_split.specs.Forms.{tag_in, text_in}
use Rattle.string_dv_dict_split.specs.Pieces.{piece_bytes, StandsIn}
use Rattle.string_dv_dict_split.proofs.PackedParts.{to_end, split_parts}
use Rattle.string_dv_dict_split.proofs.Splits.{short-form-of, long-form-of}
use Rattle.locate.specs.Located.{LiesIn, EntryIn, stored_bytes}
use Rattle.locate.proofs.Cuts.{length_cut, cut-inner}

-- Where an entry ends.
ends : (a b c l t : ℕ) → l ≡ c → a + (b + c) ≤ t → a + b + l ≤ t
ends a b c l t e h = omega arith

module _ (s : Sizes) (pages : Bytes) where
  named-lies : page_bytes s ≤ length pages → (w : ℕ) (x : Bytes) → entry_bytes s pages w ≡ Ok x → LiesIn s pages x
  named-lies there w x e =
      let F = field_at s pages w x e in
      let l : length x ≡ size_of w =
      ap length F.stored ∙ length_cut pages (address_of s w) (size_of w) (field-ends s pages w F.paged F.inside there) in
      record {
        at = address_of s w;
        inside = ends (page_of w * page_size s) (offset_of w) (size_of w) (length x) (page_bytes s) l (in-pages s (page_of w) (offset_of w + size_of w) F.paged F.inside);
        same = ap (λ (n : ℕ). take n (drop (address_of s w) pages)) l ∙ sym F.stored;
      }

  -- The bytes that a lookup answers.
  pub looked-in : page_bytes s ≤ length pages → (d i : ℕ) (lists x : Bytes) → Looked s d i pages lists (Ok (Some x)) → EntryIn s pages x
  looked-in there d i lists x look = record { small = look.inside; lies = named-lies there _ x look.named }

  module _ (x : Bytes) (X : LiesIn s pages x) where
    -- n bytes behind i.
    pub part-lies : (i n : ℕ) → i + n ≤ length x → (y : Bytes) → y ≡ take n (drop i x) → LiesIn s pages y
    part-lies i n h y e =
        let l : length y ≡ n = ap length e ∙ length-take-le n (drop i x) (simp length-drop (omega arith)) in
        record {
          at = X.at + i;
          inside = omega (arith, X.inside, l);
          same =
              ap (λ (m : ℕ). take m (drop (X.at + i) pages)) l
              ∙ cut-inner pages X.at (length x) i n h
              ∙ ap (λ (z : Bytes). take n (drop i z)) X.same
              ∙ sym e;
        }

    -- All bytes behind i.
    pub rest-lies : (i : ℕ) → i ≤ length x → (y : Bytes) → y ≡ drop i x → LiesIn s pages y
    rest-lies i h y e = part-lies i (length x - i) (omega arith) y (e ∙ sym (to_end x i))

  -- The text of a form that was split.
  pub text-lies : (x : Split) → LiesIn s pages x.bytes.now → LiesIn s pages (text_in x.bytes.now)
  text-lies x X = go x.form refl
    where
      go : (f : Form) → x.form ≡ f → LiesIn s pages (text_in x.bytes.now)
      go (Short n) e = let h = short-form-of x e in rest-lies x.bytes.now X (n + 1) h.within _ h.text
      go (Long end n) e = let h = long-form-of x e in rest-lies x.bytes.now X (end + 2) h.within _ h.text

  -- Its tag, as it is stored.
  pub tag-lies : (form : Bytes) → LiesIn s pages form → (x : Piece) → piece_bytes x ≡ tag_in form → StandsIn form x → LiesIn s pages (stored_bytes x)
  tag-lies form X (Raw b) e h =
      let S = split_parts form (Some (Short (length b.now))) h in
      part-lies form X 1 (length b.now) (omega (arith, S.within)) b.now (e ∙ S.tag)
  tag-lies form X (Escaped b) e h =
      let S = split_parts form (Some (Long (length b.now) (length (tag_in form)))) h.0 in
      part-lies form X 1 (length b.now) (omega (arith, S.within)) b.now (h.1 ∙ S.tag)
