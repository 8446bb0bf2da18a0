-- The word read lies in lists, and a block above the last one is no dictionary's.
use Rattle.std.proofs.Common.{◌≡◌, ◌≢◌, inl, inr, sym, ap, ◌∙◌, ℕ, ◌+◌, ◌-◌, ◌/◌, ◌%◌, arith}
use Rattle.std.specs.Prelude.{Option, Some, None, eqb}
use Rattle.std.proofs.lemmas.Bool.{eqb-false}
use Rattle.slices.proofs.Tests.{Split, split}
use Rattle.words.specs.Words.{word_at}
use Rattle.layout.specs.declared.packed.BlockOwner.{BlockOwner}
use Rattle.layout.specs.Packed.{block_owner}
use Rattle.blocks.proofs.Tables.{global-inside}
use Rattle.meta_dv_dict.proofs.Answers.{locals-bad-block}
use Rattle.meta_dv_dict.proofs.global_to_local.Goals as goal

-- A word that names an owner is not that of a free block.
taken : (w : ℕ) (x : BlockOwner) → Some x ≡ block_owner w → (w ≢ 0) × (x.block ≡ (w - 1) / 16)
taken w x e = go (split (eqb w 0))
  where
    go : Split (eqb w 0) → (w ≢ 0) × (x.block ≡ (w - 1) / 16)
    go (inl p) = let f : ◌≡◌ {A = Option BlockOwner} (Some x) None = rw p at e in let z : ◌≡◌ {A = ℕ} 0 1 = cc in absurd (omega arith)
    go (inr p) =
        let y : BlockOwner = record { kind = (w - 1) % 16; block = (w - 1) / 16 } in
        let f : ◌≡◌ {A = Option BlockOwner} (Some x) (Some y) = rw p at e in
        let g : x ≡ y = cc in
        (eqb-false w 0 p, ap (λ (o : BlockOwner). o.block) g)

pub overflow_add-blocks_at : goal.overflow_add-blocks_at
overflow_add-blocks_at c = omega (arith, global-inside c.args.lists.now.layout.sizes _ _ _ c.args.lists.now.fit c.if-b-g.false c.blocks_at.ensures)

pub number_at-word-requires-clause-within : goal.number_at-word-requires-clause-within
number_at-word-requires-clause-within c = global-inside c.args.lists.now.layout.sizes _ _ _ c.args.lists.now.fit c.if-b-g.false c.blocks_at.ensures

pub returns-then-b-owner : goal.returns-then-b-owner
returns-then-b-owner c =
    let g = c.args.number.0 / c.block_size.result in
    let o = taken c.number_at-word.result c.in-Some.owner c.in-Some.ensures in
    locals-bad-block c.args.lists.now.layout.sizes _ _ _ c.block_size.ensures.0 _ c.if-b-g.false
    (sym (c.number_at-word.ensures ∙ ap (λ (t : ℕ). word_at c.args.lists.now.bytes.now (t + g)) c.blocks_at.ensures))
    o.0 (omega (arith, o.1, c.if-b-owner.true))
