-- What the writes of a plan make of pages and lists: the head at its spot, then the key at its own. A head without a spot is not written. Assumes nothing.
use Rattle.std.specs.Prelude.{ℕ, [], length, Option, Some, None}
use Rattle.slices.specs.Bytes.{Bytes}
use Rattle.layout.specs.declared.Sizes.{Sizes}
use Rattle.bytes_dictionary.specs.Written.{pages_after, lists_after, pages_with, lists_with}
use Rattle.blocks.specs.Answers.{block_written}
use Rattle.model.specs.Kinds.{row}
use Rattle.plan_room.specs.declared.Head.{Head}
use Rattle.plan.specs.declared.Plan.{Plan}
use Rattle.commit.specs.declared.new_name.NewHead.{NewHead}
use Rattle.commit.specs.declared.new_name.NewName.{NewName}

-- ---- a new head, if there is one

abbrev pub head_in : Option NewHead → Option Head
head_in None = None
head_in (Some x) = Some (record { f = x.f; size = length x.bytes.now })

abbrev pub place_in : Option NewHead → ℕ
place_in None = 0
place_in (Some x) = x.place

abbrev pub bytes_of_head : Option NewHead → Bytes
bytes_of_head None = []
bytes_of_head (Some x) = x.bytes.now

-- What a plan is asked of a name's new head; its empty place and its bytes, 0 and none without one.
abbrev pub head_of : NewName → Option Head
head_of w = head_in w.head

abbrev pub head_place : NewName → ℕ
head_place w = place_in w.head

abbrev pub head_bytes : NewName → Bytes
head_bytes w = bytes_of_head w.head

-- ---- the head, then the key

unfoldable pub name_pages : Sizes → Bytes → Plan → Bytes → Bytes → Bytes
name_pages s pages x head key = pages_after s (pages_with s pages x.head head) x.spot key

unfoldable pub name_lists : Sizes → Bytes → ℕ → ℕ → ℕ → ℕ → Plan → Bytes → Bytes → Bytes
name_lists s lists k f head_place place x head key =
    block_written s
    (lists_after s (lists_with s lists (row k).heads_at f head_place x.head x.stamp head) (row k).main_at x.n place x.spot x.stamp key)
    k
    x.n
    x.g
