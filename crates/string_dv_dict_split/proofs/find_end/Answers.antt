-- The place of the first '>' is the length of what stands before it. Assumes nothing.
use Rattle.std.proofs.Common.{◌≡◌, eqb, [], ◌∷◌, length, refl, rules, arith}
use Rattle.std.proofs.lemmas.Iterator.{YieldsList-from_slice}
use Rattle.std.proofs.lemmas.Iterator.Search.{position_from_yields_List}
use Rattle.std.specs.List.{position_or_len}
use borrow.Author.Tests.{tests}
use mathlib.Core.Logic.{inl, inr}
use Rattle.slices.specs.Bytes.{Bytes}
use Rattle.slices.proofs.Tests.{Split, split}
use Rattle.string_dv_dict_split.specs.Forms.{before}
use Rattle.string_dv_dict_split.proofs.find_end.Goals as goal

position-before : (s : Bytes) → position_or_len (λ c. eqb c 62) s ≡ length (before s)
unfolding before
position-before [] = refl
position-before (c ∷ s) = go (split (eqb c 62)) (position-before s)
  where
    go : Split (eqb c 62) → position_or_len (λ b. eqb b 62) s ≡ length (before s) → position_or_len (λ b. eqb b 62) (c ∷ s) ≡ length (before (c ∷ s))
    go (inl p) ih = rw p
    go (inr p) ih = rw p (omega arith)

pub returns : goal.returns
returns c =
    let s = c.args.s.now in
    rw (← position-before s)
    (position_from_yields_List (λ b. eqb b 62) _ _ c.position.result c.position.ensures.ran (YieldsList-from_slice s cc) (λ x b q k. search (rules, tests)))
