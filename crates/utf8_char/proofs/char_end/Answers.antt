-- `utf8_char::char_end` meets its contract: a byte that does not go on leaves no text, and a character ends where nothing is due.
use Rattle.std.proofs.Common.{◌≡◌, ◌+◌, ◌-◌, ◌<◌, ◌≤◌, ℕ, false, length, get_or, take, drop, slice_range, sym, ◌∙◌, Some, None, arith}
use lib.ListN.{length-take, length-drop}
use lib.Seq.{get_or-take, get_or-drop}
use borrow.Author.Tests.{eq-eqb}
use Rattle.slices.specs.Bytes.{Bytes}
use Rattle.utf8_char.specs.Text.{Step, char_start, after, text_from}
use Rattle.utf8_char.proofs.Bounds.{bad-stays, text-more, none-due, cut}
use Rattle.utf8_char.proofs.char_end.Goals as goal

-- A byte that does not go on.
refused : (x : Step) (i : ℕ) (s : Bytes) → i < length s → None ≡ after x (get_or s i 0) → text_from x (drop i s) ≡ false
refused x i s h e = sym (text-more x None i s h e) ∙ bad-stays (drop (i + 1) s)

-- The bytes from i on.
rest-length : (s : Bytes) (i : ℕ) → length (take (length s - i) (drop i s)) ≡ length s - i
rest-length s i = omega (arith, length-take {A = ℕ}, length-drop {A = ℕ})

-- Byte j of the n bytes t from i on.
byte-at : (s t : Bytes) (i n j : ℕ) → t ≡ slice_range (take (length s - i) (drop i s)) 0 n → n ≤ length (take (length s - i) (drop i s)) → j < n
    → get_or t j 0 ≡ get_or s (i + j) 0
byte-at s t i n j e l h =
    let r = rest-length s i in
    rw e
    (get_or-take (n - 0) _ j 0 (omega arith) ∙ get_or-take (length s - i) (drop i s) j 0 (omega arith) ∙ get_or-drop i s j 0)

pub returns-in_err-due : goal.returns-in_err-due
returns-in_err-due c =
    rw c.from_residual.ensures (refused char_start c.args.i c.args.s.now c.requires (sym c.in_err-due.was ∙ c.first.ensures))

pub returns-in_err-tail : goal.returns-in_err-tail
returns-in_err-tail c =
    let d = c.in_ok-due.due in
    let s = c.args.s.now in
    rw c.from_residual-in_err-tail.ensures
    (sym (text-more char_start (Some d) c.args.i s c.requires (sym c.in_ok-due.was ∙ c.first.ensures))
    ∙ cut (drop (c.args.i + 1) s) d (omega (arith, rest-length s (c.args.i + 1), length-drop (c.args.i + 1) s, c.in_err-tail.ensures.lookup)))

pub returns-in_err-due-2 : goal.returns-in_err-due-2
returns-in_err-due-2 c =
    let a = c.loop-b in
    let s = c.args.s.now in
    let i = c.args.i + 1 in
    let p = c.in_ok-tail.ensures.lookup.0 in
    let r = rest-length s i in
    let q = byte-at s c.in_ok-tail.tail.now i _ a.b-index p.2 p.1 (omega (arith, p.3)) in
    rw c.from_residual-in_err-due-2.ensures
    (sym a.invariant.same ∙ refused (Some a.due) (i + a.b-index) s (omega (arith, p.1, p.3)) (rw q at c.in_err-due-2.ensures))

pub returns : goal.returns
returns c =
    let a = c.loop-b in
    let s = c.args.s.now in
    let p = c.in_ok-tail.ensures.lookup.0 in
    let r = rest-length s (c.args.i + 1) in
    let e : a.b-index ≡ length c.in_ok-tail.tail.now = omega arith in
    let d = none-due a.due.left a.due.lo a.due.hi (eq-eqb a.due.left 0 (omega arith)) (drop (c.args.i + 1 + a.b-index) s) in
    (omega arith, omega (arith, p.1, p.3), rw (← e) (sym d ∙ a.invariant.same))
