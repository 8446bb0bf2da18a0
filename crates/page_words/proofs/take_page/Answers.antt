-- Must-fail edits are refused at these goals. A written answer makes their check short (CONTRIBUTING.md, the edit loop).
use Rattle.page_words.specs.Written.{took_page}
use Rattle.std.proofs.Common.{rules}
use Rattle.page_words.proofs.take_page.Goals as goal

pub returns : goal.returns
unfolding took_page
returns c = search rules
