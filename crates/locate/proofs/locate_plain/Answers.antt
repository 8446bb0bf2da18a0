-- The entry itself. Assumes nothing.
use Rattle.std.proofs.Common.{refl}
use mathlib.Core.List.{append-nil}
use Rattle.locate.proofs.Strings.{located-plain}
use Rattle.locate.proofs.locate_plain.Goals as goal

pub returns : goal.returns
returns c = λ s pages lists entry. located-plain s pages lists _ c.args.kind entry c.requires _ refl (append-nil c.args.stored.now) refl refl
