-- Some characters of one byte may be written as two such characters: the result is text exactly if the bytes were. Assumes nothing.
use Prim.Native.Nat.{ℕ, ◌≤◌}
use mathlib.Core.Path.{◌≡◌, refl, ap, ◌∙◌}
use mathlib.Core.Logic.{inl, inr}
use mathlib.Core.List.{[], ◌∷◌, ◌++◌}
use native.Mathlib.Omega.{arith}
use lib.Dec.{eqb}
use Rattle.std.specs.Prelude.{Some, None}
use Rattle.slices.specs.Bytes.{Bytes}
use Rattle.slices.proofs.Tests.{Split, split}
use Rattle.utf8_char.specs.Text.{Step, within, char_start, first_of, after, text_from, is_text}
use Rattle.utf8_char.proofs.Bounds.{below, first_one, choose}

-- ---- some bytes written as two

abbrev pub each_as : (ℕ → Bytes) → Bytes → Bytes
each_as f [] = []
each_as f (b ∷ s) = f b ++ each_as f s

-- How f may write the byte b: as itself, or, where it is a character of its own, as two such characters.
pub data WrittenAs (f : ℕ → Bytes) (b : ℕ) : Type 0 where
  as-itself : f b ≡ b ∷ [] → WrittenAs f b
  as-two : (x y : ℕ) → b ≤ 0x7F → x ≤ 0x7F → y ≤ 0x7F → f b ≡ x ∷ y ∷ [] → WrittenAs f b

-- No tail byte that may be due is a character of its own.
abbrev High : Step → Type 0
High None = Unit
High (Some d) = 0x80 ≤ d.lo

high-first : (b : ℕ) → High (first_of b)
unfolding first_of
high-first b =
    choose High (within 0x00 0x7F b) (λ _. omega arith)
    (choose High (within 0xC2 0xDF b) (λ _. omega arith)
    (choose High (eqb b 0xE0) (λ _. omega arith)
    (choose High (within 0xE1 0xEC b) (λ _. omega arith)
    (choose High (eqb b 0xED) (λ _. omega arith)
    (choose High (within 0xEE 0xEF b) (λ _. omega arith)
    (choose High (eqb b 0xF0) (λ _. omega arith)
    (choose High (within 0xF1 0xF3 b) (λ _. omega arith)
    (choose High (eqb b 0xF4) (λ _. omega arith) tt))))))))

high_after : (x : Step) (b : ℕ) → High (after x b)
high_after None b = tt
high_after (Some d) b = choose High (eqb d.left 0) (λ _. high-first b) (choose High (within d.lo d.hi b) (λ _. omega arith) tt)

-- Two bytes that are each a character have the effect of one: both are refused where a tail byte is due, and taken elsewhere.
single : (x : Step) → High x → (b y z : ℕ) → b ≤ 0x7F → y ≤ 0x7F → z ≤ 0x7F → after (after x y) z ≡ after x b
single None h b y z p q r = refl
single (Some d) h b y z p q r = go (split (eqb d.left 0))
  where
    go : Split (eqb d.left 0) → after (after (Some d) y) z ≡ after (Some d) b
    go (inl e) = rw (e, first_one y (omega arith), first_one z (omega arith), first_one b (omega arith))
    go (inr e) = rw (e, below d.lo d.hi y (omega arith), below d.lo d.hi b (omega arith))

written_from : (f : ℕ → Bytes) → ((b : ℕ) → WrittenAs f b) → (t : Bytes) (x : Step) → High x
    → text_from x (each_as f t) ≡ text_from x t
written_from f w [] x h = refl
written_from f w (b ∷ t) x h = go (w b) (written_from f w t (after x b) (high_after x b))
  where
    go : WrittenAs f b → text_from (after x b) (each_as f t) ≡ text_from (after x b) t
        → text_from x (f b ++ each_as f t) ≡ text_from (after x b) t
    go (as-itself e) ih = ap (λ (l : Bytes). text_from x (l ++ each_as f t)) e ∙ ih
    go (as-two y z p q r e) ih =
        ap (λ (l : Bytes). text_from x (l ++ each_as f t)) e
        ∙ ap (λ (m : Step). text_from m (each_as f t)) (single x h b y z p q r)
        ∙ ih

pub text-written : (f : ℕ → Bytes) → ((b : ℕ) → WrittenAs f b) → (t : Bytes) → is_text (each_as f t) ≡ is_text t
unfolding is_text
text-written f w t = written_from f w t char_start (omega arith)
