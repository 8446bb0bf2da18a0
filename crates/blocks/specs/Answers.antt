-- What the block rule's functions answer: within bounds on any memory, and by the rule on memory that holds a state. Assumes nothing.
use Rattle.std.specs.Prelude.{ℕ, zero, suc, ◌+◌, ◌/◌, ◌^◌, ◌<◌, ◌≡◌, cond, ltb, Some, None, Result, Ok, Err}
use Rattle.std.specs.Prelude as Rust
use Rattle.std.proofs.Math.Option.{Option, none, some}
use Rattle.slices.specs.Bytes.{Bytes}
use Rattle.words.specs.Words.{set_word}
use Rattle.layout.specs.declared.Sizes.{Sizes}
use Rattle.layout.specs.Fields.{local_at, global_at, block_word}
use Rattle.refusals.specs.declared.Refusal.{Refusal}
use Rattle.refusals.specs.declared.Refusal.TheVariants.{Unopened}
use Rattle.blocks.specs.Blocks.{Blocks, pick}
use Rattle.blocks.specs.Tables.{BlocksAt}

-- ---- allocate_block

-- The rule's block, as the code answers it.
abbrev pub found : Option ℕ → Rust.Option ℕ
found none = None
found (some g) = Some g

-- What the code answers: a block, or none, or a refusal.
abbrev pub Allocated : Type 0
Allocated = Result (Rust.Option ℕ) Refusal

abbrev pub allocated : Option ℕ → Allocated
allocated o = Ok (found o)

-- A block that is answered is below b, and so is the local block l that it is for.
abbrev pub AllocatedBelow : ℕ → ℕ → Allocated → Type 0
AllocatedBelow b l (Ok (Some g)) = (g < b) × (l < b)
AllocatedBelow b l (Ok None) = Unit {0}
AllocatedBelow b l (Err why) = why ≡ Unopened

pub record Allocates (s : Sizes) (lists : Bytes) (k n : ℕ) (r : Allocated) : Type 0 where
  pub range : AllocatedBelow s.b (n / 2 ^ s.w) r
  pub right : (b : Blocks) → BlocksAt s b lists → b.next k ≡ n → r ≡ allocated (pick s b k)

-- The block that a local block's word names.
unfoldable pub held_by : ℕ → ℕ → Result ℕ Refusal
held_by b zero = Err Unopened
held_by b (suc g) = cond (ltb g b) (Ok g) (Err Unopened)

-- ---- take_block: the block g for the kind k's local number n

unfoldable pub block_written : Sizes → Bytes → ℕ → ℕ → ℕ → Bytes
block_written s lists k n g =
    set_word (set_word lists (local_at s k (n / 2 ^ s.w)) (g + 1)) (global_at s g) (block_word k (n / 2 ^ s.w))
