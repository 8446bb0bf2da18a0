-- `utf8::is_ascii` meets its contract: the mask of the top bits meets no bit of the word exactly if the eight bytes are ASCII.
use Rattle.std.proofs.Common.{ap, ◌∙◌, arith}
use lib.Seq.{take_all}
use Rattle.utf8.specs.Passing.{ascii}
use Rattle.utf8.proofs.Ascii.{masked}
use Rattle.utf8.proofs.is_ascii.Goals as goal

pub returns : goal.returns
returns c =
    let s = c.args.bytes.now in
    rw c.number_from.ensures (masked 8 s 0 c.fits-bytes (omega arith) ∙ ap ascii (take_all 8 s (omega arith)))
