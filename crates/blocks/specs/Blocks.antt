-- The block rule of document 01, section Blocks, as a state with one step. Assumes nothing.
use Rattle.std.specs.Prelude.{ℕ, zero, suc, ◌+◌, ◌-◌, ◌*◌, ◌/◌, ◌%◌, ◌^◌, cond, List, [], ◌∷◌, eqb}
use Rattle.std.proofs.Math.Option.{Option, none, some}
pub use Rattle.slices.specs.Updates.{upd}
use Rattle.layout.specs.declared.Sizes.{Sizes}

-- A global block is free, or held by a kind's local block.
pub data Block : Type 0 where
  free : Block
  held : ℕ → ℕ → Block

-- The owner of a global block; the global block of a kind's local block; a kind's next local number.
pub record Blocks : Type 0 where
  pub owner : ℕ → Block
  pub block_of : ℕ → ℕ → ℕ
  pub next : ℕ → ℕ

abbrev pub no_blocks : Blocks
no_blocks = record { owner = λ g. free; block_of = λ k l. zero; next = λ k. zero }

abbrev pub if_free : Block → ℕ → Option ℕ → Option ℕ
if_free free g o = some g
if_free (held k l) g o = o

-- The first free block of the n from g up.
abbrev pub search : (ℕ → Block) → ℕ → ℕ → Option ℕ
search t g zero = none
search t g (suc n) = if_free (t g) g (search t (suc g) n)

-- Where the search for a local block of the kind k starts. Local block 0: from block 0. Local block l + 1: from g + l, where g holds local block l.
abbrev pub start : Blocks → ℕ → ℕ → ℕ
start b k zero = zero
start b k (suc l) = b.block_of k l + l

-- The block of the kind k's next number. If a local block begins with it, a search gives the first free block below B. Else it is the block of its local block.
unfoldable pub pick : Sizes → Blocks → ℕ → Option ℕ
pick s b k =
    cond (eqb (b.next k % 2 ^ s.w) zero)
    (search b.owner (start b k (b.next k / 2 ^ s.w)) (s.b - start b k (b.next k / 2 ^ s.w)))
    (some (b.block_of k (b.next k / 2 ^ s.w)))

-- The kind k's next number is given, in the block g. If its local block began earlier, the owner and the block written are those already there.
abbrev pub took : ℕ → Blocks → ℕ → ℕ → Blocks
took w b k g = record {
  owner = upd b.owner g (held k (b.next k / 2 ^ w));
  block_of = upd b.block_of k (upd (b.block_of k) (b.next k / 2 ^ w) g);
  next = upd b.next k (suc (b.next k));
}

-- The global number of the kind k's local number n.
abbrev pub global : ℕ → Blocks → ℕ → ℕ → ℕ
global w b k n = b.block_of k (n / 2 ^ w) * 2 ^ w + n % 2 ^ w

-- The number that a fresh name of the kind k gets, if its block is g.
abbrev pub newest : ℕ → Blocks → ℕ → ℕ → ℕ
newest w b k g = g * 2 ^ w + b.next k % 2 ^ w

-- ---- steps for kinds in order, newest first

abbrev pub took_picked : ℕ → Blocks → ℕ → Option ℕ → Blocks
took_picked w b k none = b
took_picked w b k (some g) = took w b k g

abbrev pub blocks_after : Sizes → Blocks → List ℕ → Blocks
blocks_after s b [] = b
blocks_after s b (k ∷ ks) = took_picked s.w (blocks_after s b ks) k (pick s (blocks_after s b ks) k)

abbrev pub number_picked : ℕ → Blocks → ℕ → Option ℕ → Option ℕ
number_picked w b k none = none
number_picked w b k (some g) = some (newest w b k g)
