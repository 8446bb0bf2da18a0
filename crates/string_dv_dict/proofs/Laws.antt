-- Which texts and tags are legal, how long their form is, and what packing wrote. Assumes nothing.
use Prim.Native.Nat.{ℕ, ◌+◌, ◌*◌, ◌≤◌}
use mathlib.Core.Path.{◌≡◌, refl}
use mathlib.Core.Logic.{◌≢◌, inl, inr}
use mathlib.Core.Bool.{true, false, ◌&&◌, not}
use mathlib.Core.List.{[], ◌∷◌}
use mathlib.Core.Option.{Option, none, some}
use native.Mathlib.Omega.{arith}
use borrow.Author.Tests.{ltb-false, le-ltb, not-false}
use lib.Dec.{leb, ltb}
use lib.ListN.{length, length-append}
use Rattle.slices.specs.Bytes.{Bytes, is_empty}
use Rattle.slices.proofs.Tests.{Split, split, and_left, and_right, passed}
use Rattle.layout.specs.Sizes.{name_limit, packed_limit, packed-from-name}
use Rattle.utf8.specs.Text.{is_text}
use Rattle.encoding.proofs.Laws.{length-escaped}
use Rattle.refusals.specs.declared.Refusal.{Refusal}
use Rattle.refusals.specs.declared.Refusal.TheVariants.{TooLong, NotText, NoTag, ShortBuffer}
use Rattle.std.specs.Prelude.{Ok}
use Rattle.refusals.specs.Written.{written_by}
use Rattle.string_dv_dict.specs.Packed.{packed, pair_refusal, LegalTagged}
use Rattle.string_dv_dict.specs.Answers.{with_room, pack_answer}

-- ---- a legal text and tag

pub legal-tagged : (text tag : Bytes) → pair_refusal text tag ≡ none → LegalTagged text tag
unfolding pair_refusal
legal-tagged text tag e =
    let p = passed (ltb name_limit (length text + length tag)) TooLong _ e in
    let q = passed (not (is_text text && is_text tag)) NotText _ p.1 in
    let r = passed (is_empty tag) NoTag _ q.1 in
    let b : (is_text text && is_text tag) ≡ true = not-false _ q.0 in
    record {
      size = ltb-false _ _ p.0;
      text-is = and_left (is_text text) _ b;
      tag_is = and_right (is_text text) _ b;
      tagged = r.0;
    }

pub has-bytes : (x : Bytes) → length x ≢ 0 → is_empty x ≡ false
has-bytes [] n = absurd (n refl)
has-bytes (a ∷ x) n = refl

pub is-legal : (text tag : Bytes) → LegalTagged text tag → pair_refusal text tag ≡ none
unfolding pair_refusal
is-legal text tag h = rw (le-ltb _ _ h.size, h.text-is, h.tag_is, h.tagged)

-- ---- the length of a form

-- Escaping doubles a tag at the most, and two bytes are added.
pub packed-at-most : (text tag : Bytes) → length (packed text tag) ≤ 2 + 2 * (length text + length tag)
unfolding packed
packed-at-most text tag = go (split (leb (length tag) 127))
  where
    go : Split (leb (length tag) 127) → length (packed text tag) ≤ 2 + 2 * (length text + length tag)
    go (inl p) = rw p (simp length-append (omega arith))
    go (inr p) = rw p (simp length-append (omega (arith, (length-escaped tag).0)))

-- So no limit of the forms refuses a legal text and tag.
pub length-packed : (text tag : Bytes) → LegalTagged text tag → length (packed text tag) ≤ packed_limit
length-packed text tag h = rw packed-from-name (omega (arith, h.size, packed-at-most text tag))

-- ---- what a length answered says

length-told : (form : Bytes) (o : Option Refusal) (k : ℕ) → written_by form o ≡ Ok k → (o ≡ none) × (length form ≡ k)
length-told form none k e = (refl, cc)
length-told form (some why) k e = cc

with-room : (form : Bytes) (room : ℕ) (o : Option Refusal) → with_room form room o ≡ none → (o ≡ none) × (length form ≤ room)
with-room form room none e = (refl, ltb-false _ _ (passed (ltb room (length form)) ShortBuffer none e).0)
with-room form room (some why) e = cc

pub wrote : (text tag : Bytes) (room k : ℕ) → pack_answer text tag room ≡ Ok k
    → (pair_refusal text tag ≡ none) × (length (packed text tag) ≤ room) × (length (packed text tag) ≡ k)
unfolding pack_answer
wrote text tag room k e =
    let p = length-told (packed text tag) _ k e in
    let q = with-room (packed text tag) room _ p.0 in
    (q.0, q.1, p.1)
