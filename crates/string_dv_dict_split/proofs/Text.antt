-- Escaping changes no character into another: a tag is text exactly if its escaped form is. Assumes nothing.
use Prim.Native.Nat.{ℕ}
use mathlib.Core.Path.{◌≡◌, refl, ap, ◌∙◌}
use mathlib.Core.Logic.{inl, inr}
use mathlib.Core.List.{[], ◌∷◌, ◌++◌}
use native.Mathlib.Omega.{arith}
use borrow.Author.Tests.{eqb-true}
use lib.Dec.{eqb}
use Rattle.slices.specs.Bytes.{Bytes}
use Rattle.slices.proofs.Tests.{Split, split}
use Rattle.utf8.specs.Text.{is_text}
use Rattle.utf8_char.proofs.Laws.{text-written, WrittenAs, as-itself, as-two, each_as}
use Rattle.encoding.specs.Encoding.{escape, escaped}

escaped-each : (t : Bytes) → escaped t ≡ each_as escape t
unfolding escaped
escaped-each [] = refl
escaped-each (b ∷ t) = ap (λ (s : Bytes). escape b ++ s) (escaped-each t)

escape-written : (b : ℕ) → WrittenAs escape b
unfolding escape
escape-written b = go (split (eqb b 92)) (split (eqb b 62))
  where
    go : Split (eqb b 92) → Split (eqb b 62) → WrittenAs escape b
    go (inl p) q = let e : b ≡ 92 = eqb-true b 92 p in as-two 92 92 (omega arith) (omega arith) (omega arith) (rw p)
    go (inr p) (inl q) = let e : b ≡ 62 = eqb-true b 62 q in as-two 92 97 (omega arith) (omega arith) (omega arith) (rw (p, q))
    go (inr p) (inr q) = as-itself (rw (p, q))

pub text-escaped : (t : Bytes) → is_text (escaped t) ≡ is_text t
text-escaped t = ap is_text (escaped-each t) ∙ text-written escape escape-written t
