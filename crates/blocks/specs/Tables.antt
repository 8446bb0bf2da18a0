-- Which memory holds which state of the blocks. A kind's next number is no block word: it is its dictionary's count. Assumes nothing.
use Rattle.std.specs.Prelude.{ℕ, zero, suc, ◌+◌, ◌*◌, ◌/◌, ◌%◌, ◌^◌, ◌<◌, ◌≤◌, ◌≡◌, cond, ltb}
use Rattle.slices.specs.Bytes.{Bytes}
use Rattle.words.specs.Words.{word_at}
use Rattle.layout.specs.declared.Sizes.{Sizes}
use Rattle.layout.specs.Sizes.{kinds}
use Rattle.layout.specs.Fields.{local_at, global_at, block_word}
use Rattle.blocks.specs.Blocks.{Block, free, held, Blocks}
use Rattle.blocks.specs.Sound.{Sound, Below}

-- The word of the kind k's local block l: 0 if it has not begun.
abbrev pub local_word : ℕ → Blocks → ℕ → ℕ → ℕ
local_word w b k l = cond (ltb (l * 2 ^ w) (b.next k)) (b.block_of k l + 1) 0

-- The word of a global block, and what a word says of its block.
abbrev pub owner_word : Block → ℕ
owner_word free = 0
owner_word (held k l) = block_word k l

abbrev pub word_owner : ℕ → Block
word_owner zero = free
word_owner (suc x) = held (x % 16) (x / 16)

-- What the word of block g says. The words of the blocks start at the index `at`.
unfoldable pub owner_in : Bytes → ℕ → ℕ → Block
owner_in lists at g = word_owner (word_at lists (at + g))

pub record BlocksAt (s : Sizes) (b : Blocks) (lists : Bytes) : Type 0 where
  pub locals : (k l : ℕ) → k < kinds → l < s.b → word_at lists (local_at s k l) ≡ local_word s.w b k l
  pub owners : (g : ℕ) → g < s.b → word_at lists (global_at s g) ≡ owner_word (b.owner g)
  pub sound : Sound s.w b
  pub below : Below s.b b
  pub kind : (g k l : ℕ) → b.owner g ≡ held k l → k < kinds
  -- a local block that has not begun is zero, so that one memory and the kinds' counts hold one state
  pub unused : (k l : ℕ) → b.next k ≤ l * 2 ^ s.w → b.block_of k l ≡ zero
