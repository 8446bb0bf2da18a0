-- `utf8::is_text` meets its contract: no bytes are text, and the first pass leaves the text as it is.
use Rattle.std.proofs.Common.{◌≡◌, true, [], ◌∷◌, length, sym, refl, arith}
use borrow.Author.Tests.{eqb-true}
use Rattle.slices.specs.Bytes.{Bytes}
use Rattle.utf8_char.specs.Text.{is_text}
use Rattle.utf8.proofs.Runs.{two-within, three-within, pass-two, pass-three}
use Rattle.utf8.proofs.is_text.Goals as goal

empty : (s : Bytes) → length s ≡ 0 → true ≡ is_text s
unfolding is_text
empty [] e = refl
empty (b ∷ s) e = absurd (omega arith)

pub returns-then-is_empty : goal.returns-then-is_empty
returns-then-is_empty c = empty _ (eqb-true (length c.args.s.now) 0 (sym c.if-is_empty.ensures))

pub loop-i-init : goal.loop-i-init
unfolding is_text
loop-i-init c = record { within = c.pass_ascii-i.ensures.1; same = c.pass_ascii-i.ensures.2 }

-- Characters of two bytes are passed by `pass-two`, and those of three by `pass-three`.
pub pass_chars-twos-requires-clause-passes : goal.pass_chars-twos-requires-clause-passes
pass_chars-twos-requires-clause-passes c = λ k h e. pass-two c.args.s.now k h (two-within 0xC2 0xDF c.args.s.now k h e)

pub pass_chars-j-requires-clause-passes : goal.pass_chars-j-requires-clause-passes
pass_chars-j-requires-clause-passes c = λ k h e. pass-three c.args.s.now k h (three-within 0xE1 0xEC c.args.s.now k h e)
