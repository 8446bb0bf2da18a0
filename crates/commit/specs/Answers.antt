-- What the answers of an add mean. Assumes nothing.
use Rattle.std.specs.Prelude.{ℕ, ◌<◌, ◌≡◌, Result, Ok, Err}
use Rattle.slices.specs.Bytes.{Bytes}
use Rattle.refusals.specs.declared.Refusal.{Refusal}
use Rattle.refusals.specs.declared.Refusal.TheVariants as W
use Rattle.layout.specs.declared.Sizes.{Sizes}
use Rattle.blocks.specs.Blocks.{Blocks, global}
use Rattle.blocks.specs.Tables.{BlocksAt}
use Rattle.model.specs.Answers.{AddAnswer}
use Rattle.memory.specs.Promises.{InBlocks}
use Rattle.commit.specs.declared.Added.{Added}
use Rattle.commit.specs.declared.Added.TheVariants.{Fresh, Known}

-- Document 01's answer.
abbrev pub added_by : Result Added Refusal → AddAnswer
added_by (Ok (Fresh x)) = AddAnswer.fresh x.0
added_by (Ok (Known x)) = AddAnswer.known x.0
added_by (Err why) = AddAnswer.refused why

-- ---- a name that is there, under the kind k's local number i

abbrev pub KnownBounded : Sizes → Result Added Refusal → Type 0
KnownBounded s (Ok (Fresh x)) = ⊥
KnownBounded s (Ok (Known x)) = InBlocks s x.0
KnownBounded s (Err why) = why ≡ W.Unopened

pub record Knows (s : Sizes) (lists : Bytes) (k i : ℕ) (r : Result Added Refusal) : Type 0 where
  pub bounded : KnownBounded s r
  pub right : (b : Blocks) → BlocksAt s b lists → i < b.next k → added_by r ≡ AddAnswer.known (global s.w b k i)
