-- Legal names that store the same are equal, by each way of storing. Assumes nothing.
use Prim.Native.Nat.{ℕ}
use mathlib.Core.Path.{◌≡◌, refl, sym, ap, ◌∙◌}
use mathlib.Core.Bool.{true, false}
use mathlib.Core.Option.{none}
use lib.ListN.{take-append-drop}
use Rattle.slices.specs.Bytes.{Bytes, is_empty}
use Rattle.layout.specs.declared.Sizes.{Sizes}
use Rattle.ranked_pair_iri_dv_dict.specs.Split.{head_length}
use Rattle.string_dv_dict.specs.Packed.{packed}
use Rattle.string_dv_dict_split.specs.Forms.{text_in, tag_in}
use Rattle.string_dv_dict_split.proofs.Laws.{parts-back}
use Rattle.model.specs.Names.{Name}
use Rattle.model.specs.Kinds.{Way, splits, whole, packs, pairs, has_heads, head_by, rest_by, row}
use Rattle.model.specs.Steps.{checks}
use Rattle.model.proofs.Table.{first_only, packs_tag, no_second-row, needs-tag}
use Rattle.model.proofs.Legal.{legal}

packed-same : (x t y u : Bytes) → is_empty t ≡ false → is_empty u ≡ false → packed x t ≡ packed y u → (x ≡ y) × (t ≡ u)
packed-same x t y u ht hu e =
    let p = parts-back x t ht in
    let q = parts-back y u hu in
    (sym p.0 ∙ ap text_in e ∙ q.0, sym p.1 ∙ ap tag_in e ∙ q.1)

module _ (s : Sizes) (a b : Name) (p : checks s a ≡ none) (q : checks s b ≡ none) where
  equal : a.kind ≡ b.kind → a.first ≡ b.first → a.second ≡ b.second → a ≡ b
  equal k f g = λ i. record { kind = k i; first = f i; second = g i }

  module _ (k : a.kind ≡ b.kind) where
    same_way : (row b.kind).way ≡ (row a.kind).way
    same_way = ap (λ (j : ℕ). (row j).way) (sym k)

    -- Of both the second part is empty.
    no-seconds : first_only (row a.kind).way ≡ true → a.second ≡ b.second
    no-seconds o =
        (legal s a p).shape.second (no_second-row a.kind o) ∙ sym ((legal s b q).shape.second (no_second-row b.kind (ap first_only same_way ∙ o)))

    -- Two legal names of a kind are equal where the rests are, and in a paired kind the heads.
    way_same : (w : Way) → (row a.kind).way ≡ w → (has_heads w ≡ true → head_by w a ≡ head_by w b) → rest_by w a ≡ rest_by w b → a ≡ b
    way_same splits e h r =
        let f : a.first ≡ b.first = cc (h refl, take-append-drop (head_length a.first) a.first, take-append-drop (head_length b.first) b.first) in
        equal k f (no-seconds (ap first_only e))
    way_same whole e h r = equal k r (no-seconds (ap first_only e))
    way_same packs e h r =
        let t = packed-same a.first a.second b.first b.second ((legal s a p).tag (needs-tag a.kind (ap packs_tag e))) ((legal s b q).tag (needs-tag b.kind (ap packs_tag (same_way ∙ e)))) r in
        equal k t.0 t.1
    way_same pairs e h r = equal k (h refl) r

  pub names_same : a.kind ≡ b.kind → ((row a.kind).paired ≡ true → (row a.kind).head a ≡ (row a.kind).head b)
      → (row a.kind).rest a ≡ (row a.kind).rest b → a ≡ b
  names_same k h r = way_same k (row a.kind).way refl h r
