-- Must-fail edits are refused at these goals. A written answer makes their check short (CONTRIBUTING.md, the edit loop).
use Rattle.encoding.specs.Encoding.{encoded_byte, escape}
use Rattle.std.proofs.Common.{rules}
use Rattle.encoding.proofs.Form.encode.Goals as goal

pub returns-in-62 : goal.returns-in-62
unfolding encoded_byte escape
returns-in-62 c = search rules
