-- Packing and unpacking undo one another, for texts and tags of every length. Assumes nothing.
use Prim.Native.Nat.{ℕ, ◌+◌, ◌≤◌}
use mathlib.Core.Path.{◌≡◌, refl, sym, ap, ◌∙◌}
use mathlib.Core.Bool.{true, not}
use mathlib.Core.List.{◌++◌, append_assoc}
use mathlib.Core.Option.{Option, none, some}
use borrow.Author.Tests.{ltb-false, not-false}
use lib.Dec.{ltb}
use lib.ListN.{length, take, drop, length-append}
use lib.Seq.{take_at, drop_at}
use Rattle.slices.specs.Bytes.{Bytes}
use Rattle.slices.proofs.Tests.{passed}
use Rattle.layout.specs.Sizes.{packed_limit}
use Rattle.refusals.specs.declared.Refusal.{Refusal}
use Rattle.refusals.specs.declared.Refusal.TheVariants.{TooLong, ShortBuffer, CutForm}
use Rattle.std.specs.Prelude.{Ok}
use Rattle.string_dv_dict.specs.Packed.{packed, pair_refusal}
use Rattle.string_dv_dict.specs.Answers.{pack_answer, pack_buffer}
use Rattle.string_dv_dict.proofs.Laws.{legal-tagged, length-packed, wrote}
use Rattle.string_dv_dict.proofs.Answers.{pack-done}
use Rattle.string_dv_dict_split.specs.Forms.{tag_in, text_in, accepted}
use Rattle.string_dv_dict_split.proofs.Laws.{pack-unpack, unpack-pack}
use Rattle.string_dv_dict_unpack.specs.declared.Lengths.{Lengths}
use Rattle.string_dv_dict_unpack.specs.Answers.{unpacked_as, unpacked_by, unpack_answer, unpack_buffer}
use Rattle.string_dv_dict_unpack.proofs.Answers.{unpack-done}

-- ---- the entries, one after the other

-- A packed form is unpacked into its text and tag, where the buffer has room for both.
pub packed-unpacks : (text tag buffer : Bytes) → pair_refusal text tag ≡ none → length text + length tag ≤ length buffer
    → (unpack_answer (packed text tag) (length buffer) ≡ unpacked_as (length text) (length tag))
    × (unpack_buffer (packed text tag) buffer ≡ text ++ tag ++ drop (length text + length tag) buffer)
packed-unpacks text tag buffer e h =
    let p = pack-unpack text tag e in
    let r : length (text_in (packed text tag)) + length (tag_in (packed text tag)) ≤ length buffer = rw (p.1, p.2) h in
    let u = unpack-done (packed text tag) buffer (length-packed text tag (legal-tagged text tag e)) p.0 r in
    let a = rw (p.1, p.2) at u.0 in
    let b = rw (p.1, p.2) at u.1 in
    (a, b ∙ ap (λ (n : ℕ). text ++ tag ++ drop n buffer) (length-append text tag))

-- What both lengths say of a form.
pub record Unpacks (form : Bytes) (room m n : ℕ) : Type 0 where
  pub small : length form ≤ packed_limit
  pub taken : accepted form ≡ true
  pub fitting : length (text_in form) + length (tag_in form) ≤ room
  pub text-length : length (text_in form) ≡ m
  pub tag-length : length (tag_in form) ≡ n

both-lengths : (text tag : Bytes) (o : Option Refusal) (m n : ℕ) → unpacked_by text tag o ≡ unpacked_as m n → (o ≡ none) × (length text ≡ m) × (length tag ≡ n)
both-lengths text tag none m n e =
    let r : ◌≡◌ {A = Lengths} (record { text = length text; tag = length tag }) (record { text = m; tag = n }) = cc in
    (refl, ap (λ (x : Lengths). x.text) r, ap (λ (x : Lengths). x.tag) r)
both-lengths text tag (some why) m n e = cc

pub unpacks : (form : Bytes) (room m n : ℕ) → unpack_answer form room ≡ unpacked_as m n → Unpacks form room m n
unfolding unpack_answer
unpacks form room m n e =
    let b = both-lengths (text_in form) (tag_in form) _ m n e in
    let p = passed (ltb packed_limit (length form)) TooLong _ b.0 in
    let q = passed (not (accepted form)) CutForm _ p.1 in
    let r = passed (ltb room (length (text_in form) + length (tag_in form))) ShortBuffer _ q.1 in
    record {
      small = ltb-false _ _ p.0;
      taken = not-false _ q.0;
      fitting = ltb-false _ _ r.0;
      text-length = b.1;
      tag-length = b.2;
    }

-- A form that is unpacked is what packing makes of its text and tag, which are a tagged string.
pub unpacked-packs : (form : Bytes) (room m n : ℕ) → unpack_answer form room ≡ unpacked_as m n
    → (pair_refusal (text_in form) (tag_in form) ≡ none) × (form ≡ packed (text_in form) (tag_in form))
unpacked-packs form room m n e = let p = unpack-pack form (unpacks form room m n e).taken in (p.0, sym p.1)

-- ---- the same, said of the buffers alone

-- The k bytes that packing wrote are unpacked into the text and the tag.
pub pack-then-unpack : (text tag first second : Bytes) (k : ℕ) → pack_answer text tag (length first) ≡ Ok k → length text + length tag ≤ length second →
    let form = take k (pack_buffer text tag first) in
    (unpack_answer form (length second) ≡ unpacked_as (length text) (length tag))
    × (unpack_buffer form second ≡ text ++ tag ++ drop (length text + length tag) second)
pack-then-unpack text tag first second k e h =
    let w = wrote text tag (length first) k e in
    let f : take k (pack_buffer text tag first) ≡ packed text tag =
    ap (λ (x : Bytes). take k x) (pack-done text tag first w.0 w.1).1 ∙ take_at (packed text tag) _ k w.2 in
    rw f (packed-unpacks text tag second w.0 h)

-- The m bytes and the n bytes that unpacking wrote are packed into the form.
pub unpack-then-pack : (form first second : Bytes) (m n : ℕ) → unpack_answer form (length first) ≡ unpacked_as m n → length form ≤ length second →
    let text = take m (unpack_buffer form first) in
    let tag = take n (drop m (unpack_buffer form first)) in
    (pack_answer text tag (length second) ≡ Ok (length form)) × (pack_buffer text tag second ≡ form ++ drop (length form) second)
unpack-then-pack form first second m n e h =
    let u = unpacks form (length first) m n e in
    let p = unpack-pack form u.taken in
    let b = (unpack-done form first u.small u.taken u.fitting).1 ∙ append_assoc (text_in form) (tag_in form) _ in
    let x : take m (unpack_buffer form first) ≡ text_in form = ap (λ (l : Bytes). take m l) b ∙ take_at (text_in form) _ m u.text-length in
    let y : take n (drop m (unpack_buffer form first)) ≡ tag_in form =
    ap (λ (l : Bytes). take n (drop m l)) b
    ∙ ap (λ (l : Bytes). take n l) (drop_at (text_in form) _ m u.text-length)
    ∙ take_at (tag_in form) _ n u.tag-length in
    let d = pack-done (text_in form) (tag_in form) second p.0 (rw p.1 h) in
    let a = rw p.1 at d.0 in
    let c = rw p.1 at d.1 in
    rw (x, y) (a, c)
