-- The head's key is the head, which has room if it has a spot.
use Rattle.std.proofs.Common.{◌≡◌, length}
use Rattle.std.specs.Prelude.{Option, Some, None}
use Rattle.slices.specs.Bytes.{Bytes}
use Rattle.layout.specs.declared.Sizes.{Sizes}
use Rattle.bytes_buffer.specs.declared.Spot.{Spot}
use Rattle.bytes_dictionary.specs.Written.{HasRoomIf}
use Rattle.plan_room.specs.Steps.{is_new, HeadFits}
use Rattle.commit.specs.declared.new_name.NewHead.{NewHead}
use Rattle.commit.specs.Written.{head_in, bytes_of_head}
use Rattle.commit.proofs.insert_head.Goals as goal

has-room : (s : Sizes) (o : Option NewHead) (h : NewHead) (key : Bytes) (spot : Option Spot) → o ≡ Some h → key ≡ h.bytes.now
    → HeadFits s (length (bytes_of_head o)) (is_new (head_in o)) spot → HasRoomIf s (length key) spot
has-room s o h key (Some spot) e q f = let g = rw e at f in rw q g.1
has-room s o h key None e q f = tt

pub insert_planned-requires-clause-has_room : goal.insert_planned-requires-clause-has_room
insert_planned-requires-clause-has_room c =
    has-room _ c.args.w.now.head c.in-Some.head _ c.args.x.now.head c.in-Some.is c.whole-key.ensures.1 c.requires.has_room.0
