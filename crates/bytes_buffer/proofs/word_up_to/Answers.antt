-- Must-fail edits are refused at these goals. A written answer makes their check short (CONTRIBUTING.md, the edit loop).
use Rattle.std.proofs.Common.{rules}
use Rattle.bytes_buffer.proofs.word_up_to.Goals as goal

pub returns : goal.returns
returns c = search rules
