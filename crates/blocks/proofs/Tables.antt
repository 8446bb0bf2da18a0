-- Memory that holds a state of the blocks: where its words lie, what they say, and that a step written to it makes it hold the next state. Assumes nothing.
use Prim.Native.Nat.{ℕ, zero, suc, ◌+◌, ◌*◌, ◌/◌, ◌%◌, ◌^◌, ◌<◌, ◌≤◌}
use mathlib.Core.Path.{◌≡◌, refl, sym, ap, ◌∙◌}
use mathlib.Core.Logic.{inl, inr, ◌≢◌}
use mathlib.Core.Bool.{cond}
use mathlib.Core.Option.{some}
use native.Mathlib.Nat.{mul-div_cancel}
use native.Mathlib.Omega.{arith}
use native.Mathlib.Decide.{ℕ_discrete}
use borrow.Author.Tests.{eq-eqb, ne_eqb, lt-ltb, le-ltb, ltb-true, ltb-false}
use lib.Dec.{ltb}
use lib.ListN.{length}
use lib.Pow as Pow
use Rattle.slices.specs.Bytes.{Bytes}
use Rattle.slices.proofs.Tests.{Split, split, same_test}
use Rattle.words.specs.Words.{word_at, set_word}
use Rattle.words.proofs.Laws.{word-set-same, word-set-other, length-set_word}
use Rattle.layout.specs.declared.Sizes.{Sizes}
use Rattle.layout.specs.Sizes.{InRange, kinds, list_bytes}
use Rattle.layout.specs.Fields.{blocks_at, local_at, global_at, block_word}
use Rattle.layout.proofs.Places.{blocks-below, blocks_from, blocks_end, list-bytes}
use Rattle.header.specs.Opened.{opened_lists}
use Rattle.header.proofs.Opened.{opened-zero}
use Rattle.blocks.specs.Blocks.{Block, free, held, Blocks, no_blocks, pick, took}
use Rattle.blocks.specs.Tables.{local_word, owner_word, word_owner, owner_in, BlocksAt}
use Rattle.blocks.specs.Answers.{block_written}
use Rattle.blocks.proofs.Steps.{step-sound, picked, not-held, opened-sound}
use Rattle.blocks.proofs.Pigeons.{picked-below}

-- ---- where the words lie

-- The words of the blocks, all of them.
abbrev pub BlockWord : Sizes → ℕ → Type 0
BlockWord s i = (blocks_at s 0 ≤ i) × (i < blocks_at s 0 + (kinds + 1) * s.b)

first-end : (s : Sizes) → blocks_at s 0 + kinds * s.b ≡ blocks_at s kinds
unfolding blocks_at
first-end s = omega arith

pub local-word : (s : Sizes) (k l : ℕ) → k < kinds → l < s.b → BlockWord s (local_at s k l)
unfolding blocks_at
local-word s k l h g = (omega arith, omega (arith, blocks-below s k kinds h, first-end s))

pub global-word : (s : Sizes) (g : ℕ) → g < s.b → BlockWord s (global_at s g)
global-word s g h = (omega (arith, first-end s), omega (arith, first-end s))

-- They lie in lists.
pub block-fits : (s : Sizes) (i n : ℕ) → list_bytes s ≤ n → BlockWord s i → 8 * i + 8 ≤ n
block-fits s i n f h = omega (arith, h.1, first-end s, blocks_end s, list-bytes s)

-- The same at the place that code computes: the first word of a table, and an index.
pub local-inside : (s : Sizes) (k l n at : ℕ) → list_bytes s ≤ n → k < kinds → l < s.b → at ≡ blocks_at s k → 8 * (at + l) + 8 ≤ n
local-inside s k l n at f h g e = rw e (block-fits s (local_at s k l) n f (local-word s k l h g))

pub global-inside : (s : Sizes) (g n at : ℕ) → list_bytes s ≤ n → g < s.b → at ≡ blocks_at s kinds → 8 * (at + g) + 8 ≤ n
global-inside s g n at f h e = rw e (block-fits s (global_at s g) n f (global-word s g h))

local-apart : (s : Sizes) (j m k l : ℕ) → m < s.b → l < s.b → j ≢ k → local_at s j m ≢ local_at s k l
local-apart s j m k l f h d e = go (split (ltb j k))
  where
    go : Split (ltb j k) → ⊥
    go (inl p) = omega (arith, blocks-below s j k (ltb-true j k p))
    go (inr p) = omega (arith, blocks-below s k j (let q : k ≤ j = ltb-false j k p in omega arith))

below-global : (s : Sizes) (k l g : ℕ) → k < kinds → l < s.b → local_at s k l < global_at s g
below-global s k l g h f = omega (arith, blocks-below s k kinds h)

-- ---- what the words say

owner-back : (o : Block) → ((k l : ℕ) → o ≡ held k l → k < kinds) → word_owner (owner_word o) ≡ o
owner-back free h = refl
owner-back (held k l) h =
    let low : k < kinds = h k l refl in
    let e : block_word k l ≡ suc (k + 16 * l) = omega arith in
    let p : (k + 16 * l) % 16 ≡ k = omega arith in
    let q : (k + 16 * l) / 16 ≡ l = omega arith in
    ap word_owner e ∙ ap (λ (t : ℕ). held t ((k + 16 * l) / 16)) p ∙ ap (held k) q

pub owner-in : (s : Sizes) (b : Blocks) (lists : Bytes) → BlocksAt s b lists → (g : ℕ) → g < s.b → owner_in lists (blocks_at s kinds) g ≡ b.owner g
unfolding owner_in
owner-in s b lists T g h = ap word_owner (T.owners g h) ∙ owner-back (b.owner g) (λ k l e. T.kind g k l e)

-- A block from B up is free.
pub owner-past : (s : Sizes) (b : Blocks) (lists : Bytes) → BlocksAt s b lists → (g : ℕ) → s.b ≤ g → b.owner g ≡ free
owner-past s b lists T g h = go (b.owner g) refl
  where
    go : (o : Block) → b.owner g ≡ o → o ≡ free
    go free e = refl
    go (held k l) e = absurd (omega (arith, T.below g k l e))

-- ---- the opened memory, and memory that agrees

pub opened-blocks : (s : Sizes) (lists : Bytes) → ((i : ℕ) → BlockWord s i → word_at lists i ≡ 0) → BlocksAt s no_blocks lists
opened-blocks s lists z =
    let S = opened-sound s.w s.b in
    record {
      locals = λ k l h g. z (local_at s k l) (local-word s k l h g) ∙ sym (ap (λ t. cond t (0 + 1) 0) (le-ltb (l * 2 ^ s.w) 0 (omega arith)));
      owners = λ g h. z (global_at s g) (global-word s g h);
      sound = S.0;
      below = S.1;
      kind = λ g k l e. not-held e;
      unused = λ k l h. refl;
    }

-- Freshly initialised memory has no block.
pub init-blocks : (s : Sizes) (lists : Bytes) → BlocksAt s no_blocks (opened_lists s lists)
init-blocks s lists =
    opened-blocks s (opened_lists s lists)
    (λ i h. opened-zero s lists i (omega (arith, blocks_from s 0, h.0)) (block-fits s i (list_bytes s) (omega arith) h))

pub kept-blocks : (s : Sizes) (b : Blocks) (x y : Bytes) → ((i : ℕ) → BlockWord s i → word_at y i ≡ word_at x i) → BlocksAt s b x → BlocksAt s b y
kept-blocks s b x y same T = record {
  locals = λ k l h g. same (local_at s k l) (local-word s k l h g) ∙ T.locals k l h g;
  owners = λ g h. same (global_at s g) (global-word s g h) ∙ T.owners g h;
  sound = T.sound;
  below = T.below;
  kind = T.kind;
  unused = T.unused;
}

-- ---- a step

-- A step begins no local block but its own.
begins-none : (w n m : ℕ) → n / 2 ^ w ≢ m → m * 2 ^ w ≢ n
begins-none w n m d e = d (ap (λ (t : ℕ). t / 2 ^ w) (sym e) ∙ mul-div_cancel m (Pow.pow_pos w))

begun-same : (w n m : ℕ) → n / 2 ^ w ≢ m → ltb (m * 2 ^ w) (suc n) ≡ ltb (m * 2 ^ w) n
begun-same w n m d =
    let z : m * 2 ^ w ≢ n = begins-none w n m d in
    same_test (ltb (m * 2 ^ w) (suc n)) (ltb (m * 2 ^ w) n)
    (λ p. let q : m * 2 ^ w < suc n = ltb-true _ _ p in lt-ltb (m * 2 ^ w) n (omega arith))
    (λ p. let q : m * 2 ^ w < n = ltb-true _ _ p in lt-ltb (m * 2 ^ w) (suc n) (omega arith))

module _ (s : Sizes) (b : Blocks) (lists : Bytes) (k g l : ℕ) (R : InRange s) (F : list_bytes s ≤ length lists) (T : BlocksAt s b lists)
    (H : k < kinds) (E : pick s b k ≡ some g) (L : b.next k / 2 ^ s.w ≡ l) where
  block-low : g < s.b
  block-low = (picked s b k g T.sound T.below E).1

  local-low : l < s.b
  local-low = rw (← L) (picked-below s b k g T.sound T.below E)

  begun : l * 2 ^ s.w ≤ b.next k
  begun = rw (← L) (omega (arith, Pow.split (b.next k) s.w))

  local-step : (j m : ℕ) → j < kinds → m < s.b → Dec (k ≡ j) → Dec (l ≡ m)
      → word_at (set_word lists (local_at s k l) (g + 1)) (local_at s j m) ≡ local_word s.w (took s.w b k g) j m
  local-step j m h f (yes p) (yes q) =
      let lt : l * 2 ^ s.w < suc (b.next k) = omega (arith, begun) in
      rw (← p, ← q, eq-eqb k k refl, eq-eqb (b.next k / 2 ^ s.w) l L, lt-ltb (l * 2 ^ s.w) (suc (b.next k)) lt)
      (word-set-same lists (local_at s k l) (g + 1) (block-fits s _ _ F (local-word s k l H local-low)) (omega (arith, block-low, R.b)))
  local-step j m h f (yes p) (no q) =
      let d : b.next k / 2 ^ s.w ≢ m = λ e. q (sym L ∙ e) in
      let o : local_at s j m ≢ local_at s k l = omega (arith, ap (blocks_at s) p) in
      word-set-other lists (local_at s k l) (local_at s j m) (g + 1) o ∙ T.locals j m h f
      ∙ rw (← p, eq-eqb k k refl, ne_eqb (b.next k / 2 ^ s.w) m d, begun-same s.w (b.next k) m d)
  local-step j m h f (no p) q =
      let o : local_at s j m ≢ local_at s k l = local-apart s j m k l f local-low (λ e. p (sym e)) in
      word-set-other lists (local_at s k l) (local_at s j m) (g + 1) o ∙ T.locals j m h f ∙ rw (ne_eqb k j p)

  -- Both words of the step.
  abbrev memory : Bytes
  memory = set_word (set_word lists (local_at s k l) (g + 1)) (global_at s g) (block_word k l)

  owner-step : (i : ℕ) → i < s.b → Dec (g ≡ i) → word_at memory (global_at s i) ≡ owner_word ((took s.w b k g).owner i)
  owner-step i f (yes q) =
      let fit : 8 * global_at s g + 8 ≤ length (set_word lists (local_at s k l) (g + 1)) =
      rw length-set_word (block-fits s (global_at s g) (length lists) F (global-word s g block-low)) in
      rw (← q, eq-eqb g g refl, L) (word-set-same _ (global_at s g) (block_word k l) fit (omega (arith, H, local-low, R.b)))
  owner-step i f (no q) =
      let o : global_at s i ≢ global_at s g = omega arith in
      let a : global_at s i ≢ local_at s k l = omega (arith, below-global s k l i H local-low) in
      word-set-other _ (global_at s g) (global_at s i) (block_word k l) o ∙ word-set-other lists (local_at s k l) (global_at s i) (g + 1) a
      ∙ T.owners i f
      ∙ rw (ne_eqb g i q)

  kind-step : (i j m : ℕ) → (took s.w b k g).owner i ≡ held j m → Dec (g ≡ i) → j < kinds
  kind-step i j m e (yes q) =
      let p : held k (b.next k / 2 ^ s.w) ≡ held j m = rw (eq-eqb g i q) at e in
      let u : k ≡ j = cc in
      omega arith
  kind-step i j m e (no q) = T.kind i j m (rw (ne_eqb g i q) at e)

  unused-step : (j m : ℕ) → (took s.w b k g).next j ≤ m * 2 ^ s.w → Dec (k ≡ j) → (took s.w b k g).block_of j m ≡ zero
  unused-step j m f (no p) = let z : b.next j ≤ m * 2 ^ s.w = rw (ne_eqb k j p) at f in rw (ne_eqb k j p) (T.unused j m z)
  unused-step j m f (yes p) =
      let z : suc (b.next k) ≤ m * 2 ^ s.w = rw (eq-eqb k j p) at f in
      let d : b.next k / 2 ^ s.w ≢ m = λ e. let y : m * 2 ^ s.w ≤ b.next k = rw (← e, L) begun in omega arith in
      rw (eq-eqb k j p, ne_eqb (b.next k / 2 ^ s.w) m d) (T.unused k m (omega arith))

  step-blocks : BlocksAt s (took s.w b k g) memory
  step-blocks =
      let S = step-sound s b k g T.sound T.below E in
      record {
        locals = λ j m h f.
            word-set-other _ (global_at s g) (local_at s j m) (block_word k l) (omega (arith, below-global s j m g h f))
            ∙ local-step j m h f (ℕ_discrete k j) (ℕ_discrete l m);
        owners = λ i f. owner-step i f (ℕ_discrete g i);
        sound = S.0;
        below = S.1;
        kind = λ i j m e. kind-step i j m e (ℕ_discrete g i);
        unused = λ j m f. unused-step j m f (ℕ_discrete k j);
      }

-- What `take_block` writes makes the memory hold the state after the step.
pub took-blocks : (s : Sizes) (b : Blocks) (lists : Bytes) (k g : ℕ) → InRange s → list_bytes s ≤ length lists → BlocksAt s b lists
    → k < kinds → pick s b k ≡ some g → BlocksAt s (took s.w b k g) (block_written s lists k (b.next k) g)
unfolding block_written
took-blocks s b lists k g R F T h e = step-blocks s b lists k g (b.next k / 2 ^ s.w) R F T h e refl
