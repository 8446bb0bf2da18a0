-- What `take_block` leaves as it was. Assumes nothing.
use Prim.Native.Nat.{ℕ, ◌+◌, ◌*◌, ◌/◌, ◌^◌, ◌<◌, ◌≤◌}
use mathlib.Core.Path.{◌≡◌, ◌∙◌}
use mathlib.Core.Logic.{◌⊎◌, inl, inr}
use native.Mathlib.Omega.{arith}
use lib.ListN.{length, get_or}
use Rattle.slices.specs.Bytes.{Bytes}
use Rattle.slices.proofs.Sets.{Outside}
use Rattle.words.specs.Words.{set_word}
use Rattle.words.proofs.Laws.{length-set_word, get_d-set_word}
use Rattle.layout.specs.declared.Sizes.{Sizes}
use Rattle.layout.specs.Sizes.{kinds, list_bytes}
use Rattle.layout.specs.Fields.{blocks_at, local_at, global_at, block_word}
use Rattle.blocks.specs.Answers.{block_written}
use Rattle.blocks.proofs.Tables.{BlockWord, local-word, global-word, block-fits}

pub length-written : (s : Sizes) (lists : Bytes) (k n g : ℕ) → length (block_written s lists k n g) ≡ length lists
unfolding block_written
length-written s lists k n g =
    length-set_word (set_word lists (local_at s k (n / 2 ^ s.w)) (g + 1)) (global_at s g) (block_word k (n / 2 ^ s.w)) ∙ length-set_word lists (local_at s k (n / 2 ^ s.w)) (g + 1)

-- A byte before the words of the blocks, or behind them.
abbrev pub OffBlocks : Sizes → ℕ → Type 0
OffBlocks s i = (i < 8 * blocks_at s 0) ⊎ (list_bytes s ≤ i)

off : (s : Sizes) (i j : ℕ) → OffBlocks s i → BlockWord s j → Outside (8 * j) 8 i
off s i j (inl o) h d f = omega (arith, h.0)
off s i j (inr o) h d f = omega (arith, block-fits s j (list_bytes s) (omega arith) h)

pub byte-written : (s : Sizes) (lists : Bytes) (k n g : ℕ) → k < kinds → n / 2 ^ s.w < s.b → g < s.b → (i : ℕ) → OffBlocks s i
    → get_or (block_written s lists k n g) i 0 ≡ get_or lists i 0
unfolding block_written
byte-written s lists k n g h f e i o =
    get_d-set_word (set_word lists (local_at s k (n / 2 ^ s.w)) (g + 1)) (global_at s g) (block_word k (n / 2 ^ s.w)) i (off s i (global_at s g) o (global-word s g e))
    ∙ get_d-set_word lists (local_at s k (n / 2 ^ s.w)) (g + 1) i (off s i (local_at s k (n / 2 ^ s.w)) o (local-word s k (n / 2 ^ s.w) h f))
