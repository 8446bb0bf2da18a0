-- What escaping does to a list of bytes; a stored tag, a byte at a time. Assumes nothing.
use Prim.Native.Nat.{ℕ, ◌+◌, ◌*◌, ◌≤◌, ◌<◌}
use mathlib.Core.Path.{◌≡◌, refl, sym}
use mathlib.Core.Logic.{◌⊎◌, inl, inr, ◌≢◌}
use mathlib.Core.List.{[], ◌∷◌, ◌++◌, append_assoc}
use native.Mathlib.Numerals.{add-one}
use native.Mathlib.Omega.{arith}
use lib.Dec.{eqb}
use lib.ListN.{length, get_or, drop, length-append, drop_of_length-le}
use lib.Seq.{drop-cons}
use borrow.Author.Tests.{eqb-true, eqb-false}
use Rattle.slices.specs.Bytes.{Bytes}
use Rattle.slices.proofs.Tests.{Split, split}
use Rattle.encoding.specs.declared.Form.{Form}
use Rattle.encoding.specs.declared.Form.TheVariants.{Short, Long}
use Rattle.encoding.specs.Encoding.{escape, escaped, is_long, tag_bytes, form_of, first_byte, encoded_byte, encoded_end, encoded}

-- The three ways in which a byte is stored.
abbrev pub EscapeCases : ℕ → Type 0
EscapeCases b =
    ((escape b ≡ b ∷ []) × (b ≢ 92) × (b ≢ 62))
    ⊎ (((b ≡ 92) × (escape b ≡ 92 ∷ 92 ∷ [])) ⊎ ((b ≡ 62) × (escape b ≡ 92 ∷ 97 ∷ [])))

pub escape-cases : (b : ℕ) → EscapeCases b
unfolding escape
escape-cases b = go (split (eqb b 92)) (split (eqb b 62))
  where
    go : Split (eqb b 92) → Split (eqb b 62) → EscapeCases b
    go (inl p) q = inr (inl (eqb-true b 92 p, rw p))
    go (inr p) (inl q) = inr (inr (eqb-true b 62 q, rw (p, q)))
    go (inr p) (inr q) = inl (rw (p, q), eqb-false b 92 p, eqb-false b 62 q)

pub length-escape : (b : ℕ) → (length (escape b) ≤ 2) × (1 ≤ length (escape b))
length-escape b = go (escape-cases b)
  where
    go : EscapeCases b → (length (escape b) ≤ 2) × (1 ≤ length (escape b))
    go (inl h) = rw h.0 (omega arith)
    go (inr (inl h)) = rw h.1 (omega arith)
    go (inr (inr h)) = rw h.1 (omega arith)

pub length-escaped : (s : Bytes) → (length (escaped s) ≤ 2 * length s) × (length s ≤ length (escaped s))
unfolding escaped
length-escaped [] = omega arith
length-escaped (x ∷ s) = omega (arith, length-escape x, length-escaped s, length-append (escape x) (escaped s))

-- ---- what is stored, a byte at a time

-- What is left at i begins with x, which is stored for the byte at i.
pub encoded-more : (form : Form) (i : ℕ) (s x : Bytes) → i < length s → x ≡ encoded_byte form (get_or s i 0)
    → encoded form (drop i s) ≡ x ++ encoded form (drop (i + 1) s)
unfolding encoded
encoded-more form i s x l e = rw (e, add-one, drop-cons s i 0)

-- At the end x is left, which is stored there.
pub encoded-end : (form : Form) (i : ℕ) (s x : Bytes) → length s ≤ i → x ≡ encoded_end form → encoded form (drop i s) ≡ x
unfolding encoded
encoded-end form i s x l e = rw (e, drop_of_length-le s l)

encoded-short : (s : Bytes) → encoded Short s ≡ s
unfolding encoded encoded_byte
encoded-short [] = refl
encoded-short (b ∷ s) = rw (encoded-short s)

encoded-long : (s : Bytes) → encoded Long s ≡ escaped s ++ 62 ∷ []
unfolding encoded encoded_byte escaped
encoded-long [] = refl
encoded-long (b ∷ s) = rw (encoded-long s) (sym (append_assoc (escape b) (escaped s) (62 ∷ [])))

pub length-encoded : (form : Form) (s : Bytes) → length (encoded form s) ≤ 2 * length s + 1
length-encoded Short s = rw (encoded-short s) (omega arith)
length-encoded Long s = rw (encoded-long s) (omega (arith, length-escaped s, length-append (escaped s) (62 ∷ [])))

-- The stored tag: the byte in front, and what stands behind it.
pub tag-bytes : (tag : Bytes) → tag_bytes tag ≡ first_byte tag ∷ encoded (form_of tag) tag
unfolding tag_bytes
tag-bytes tag = go (split (is_long tag))
  where
    go : Split (is_long tag) → tag_bytes tag ≡ first_byte tag ∷ encoded (form_of tag) tag
    go (inl p) = rw (p, encoded-long tag)
    go (inr p) = rw (p, encoded-short tag)
