-- `lines::digits` meets its contract: each turn takes a digit as the definition takes it, and the loop ends where the definition ends.
use Rattle.std.proofs.Common.{rules, ltb, length-drop, ◌≡◌, ◌+◌, ◌-◌, ◌*◌, ◌<◌, ◌≤◌, ℕ, List, [], ◌∷◌, Some, None, length, slice_index, take, drop, refl, sym, ◌∙◌, arith}
use Rattle.std.proofs.Math.Bool.{and-false}
use Rattle.std.proofs.Math.Seq.{take-length}
use borrow.Author.Tests.{lt-ltb, le-ltb}
use Rattle.lines.specs.Digits.{digit_value, number_in}
use Rattle.lines.proofs.digits.Goals as goal
use Rattle.lines.proofs.digits.Goals.{then-rest-lt1, in-len1-up+else-value, in-len1-up+then-value+in-None-1}

-- All that is behind the first byte.
behind : (s : List ℕ) → take (length s - 1) (drop 1 s) ≡ drop 1 s
behind [] = refl
behind (b ∷ s) = let n : length (b ∷ s) - 1 ≡ length s = omega arith in rw n (take-length s)

-- One digit more.
more : (base room v d : ℕ) (s : List ℕ) → 0 < length s → v < room → digit_value base (slice_index s 0) ≡ Some d
    → number_in base room (v * base + d) (drop 1 s) ≡ number_in base room v s
unfolding number_in
more base room v d [] l h e = absurd (omega arith)
more base room v d (b ∷ s) l h e = rw (lt-ltb v room h, e) refl

empty : (base room v : ℕ) (s : List ℕ) → length s < 1 → (v, s) ≡ number_in base room v s
unfolding number_in
empty base room v [] h = refl
empty base room v (b ∷ s) h = absurd (omega arith)

-- There is no room for one more digit.
full : (base room v : ℕ) (s : List ℕ) → room ≤ v → (v, s) ≡ number_in base room v s
unfolding number_in
full base room v [] h = refl
full base room v (b ∷ s) h = rw (le-ltb v room h) refl

-- No digit is in front.
ended : (base room v : ℕ) (s : List ℕ) → digit_value base (slice_index s 0) ≡ None → (v, s) ≡ number_in base room v s
unfolding number_in
ended base room v [] e = refl
ended base room v (b ∷ s) e = rw (e, and-false (ltb v room)) refl

pub loop-rest-preserved : goal.loop-rest-preserved
loop-rest-preserved g c =
    let l = c.loop-rest in
    let s = l.rest.now in
    let d = more g.row.BASE g.row.ROOM l.value c.in-Some.d s c.in-len1-up.len_at_least c.if-value.true (sym c.in-Some.ensures.value) in
    rw (behind s, c.from.ensures, c.from-in-loop-rest.ensures) (record {
      left = d ∙ l.invariant.left;
      within = omega (arith, length-drop 1 s, l.invariant.within);
    })

pub returns-clause-value : goal.returns-clause-value
returns-clause-value g c =
    let l = c.loop-rest in
    let v = l.value in
    let s = l.rest.now in
    let t : (v, s) ≡ number_in g.row.BASE g.row.ROOM v s =
    elim c.if-rest-lt1.branch [
      | then-rest-lt1 w ↦ empty g.row.BASE g.row.ROOM v s (search rules)
      | in-len1-up+else-value w ↦ full g.row.BASE g.row.ROOM v s w.if-value.false
      | in-len1-up+then-value+in-None-1 w ↦ ended g.row.BASE g.row.ROOM v s cc
    ] in
    t ∙ l.invariant.left
