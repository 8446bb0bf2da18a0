-- What holds of every state of the blocks that calls can reach, as facts that a program could check; and which block a step may take. Assumes nothing.
use Rattle.std.specs.Prelude.{ℕ, ◌*◌, ◌/◌, ◌%◌, ◌^◌, ◌<◌, ◌≡◌, ◌≢◌}
use Rattle.blocks.specs.Blocks.{free, held, Blocks}

-- The two tables of blocks agree with one another.
pub record Sound (w : ℕ) (b : Blocks) : Type 0 where
  pub there : (k l : ℕ) → l * 2 ^ w < b.next k → b.owner (b.block_of k l) ≡ held k l
  pub back : (g k l : ℕ) → b.owner g ≡ held k l → (l * 2 ^ w < b.next k) × (b.block_of k l ≡ g)

-- Every held block is below n.
abbrev pub Below : ℕ → Blocks → Type 0
Below n b = (g k l : ℕ) → b.owner g ≡ held k l → g < n

-- The block g may be taken for the kind k's next local number. If a local block begins with it, g is free; else g holds its local block.
pub data May (w : ℕ) (b : Blocks) (k g : ℕ) : Type 0 where
  begins : b.next k % 2 ^ w ≡ 0 → b.owner g ≡ free → May w b k g
  goes_on : b.next k % 2 ^ w ≢ 0 → b.block_of k (b.next k / 2 ^ w) ≡ g → May w b k g
