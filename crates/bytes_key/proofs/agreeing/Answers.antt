-- Two words are equal exactly where their eight bytes are. Assumes nothing.
use Rattle.std.proofs.Common.{◌≡◌, ℕ, ◌+◌, ◌-◌, ◌<◌, ◌≤◌, length, get_or, sym, ◌∙◌, arith}
use Rattle.slices.specs.Bytes.{Bytes}
use Rattle.words.specs.Words.{le_at}
use Rattle.words.proofs.Laws.{le-agree, le_same}
use Rattle.bytes_key.specs.Keys.{Agree, Agreeing}
use Rattle.bytes_key.proofs.Compared.{no_more, at-once-not, at_once}
use Rattle.bytes_key.proofs.agreeing.Goals as goal

-- The eight bytes that begin where `from` are left.
module _ (pages : Bytes) (end : ℕ) (rest : Bytes) (from : ℕ) (eight : 8 ≤ from) (inside : from ≤ length rest) (fits : length rest ≤ end) where
  bytes_word : Agree pages end rest 0 (length rest) → le_at 8 pages (end - from) ≡ le_at 8 rest (length rest - from)
  bytes_word h =
      le-agree 8 pages rest (end - from) (length rest - from)
      (λ i l.
      let p : end - from + i ≡ end - (from - i) = omega arith in
      let q : length rest - from + i ≡ length rest - (from - i) = omega arith in
      rw (p, q) (h (from - i) (omega arith) (omega arith)))

  word_bytes : ((k : ℕ) → get_or pages k 0 < 256) → ((k : ℕ) → get_or rest k 0 < 256) → le_at 8 pages (end - from) ≡ le_at 8 rest (length rest - from)
      → Agree pages end rest (from - 8) from
  word_bytes b d e k l u =
      let p : end - from + (from - k) ≡ end - k = omega arith in
      let q : length rest - from + (from - k) ≡ length rest - k = omega arith in
      let w = le_same 8 pages rest (end - from) (length rest - from) b d e (from - k) (omega arith) in
      cc

  -- r of them were not compared before.
  agreed : (left r : ℕ) → Agree pages end rest (from - 8) from → 0 < r → r ≤ left → from - 8 ≤ left - r → left ≤ from → Agreeing pages end rest left r
  agreed left r h p q a b = record { within = q; same = λ k l u. h k (omega arith) (omega arith); differ = λ e. absurd (omega arith) }

pub returns-then-not-is_stored_as-clause-agreeing : goal.returns-then-not-is_stored_as-clause-agreeing
returns-then-not-is_stored_as-clause-agreeing c =
    at-once-not c.args.stored.now c.args.rest.now (omega arith) c.args.left (rw c.raw.ensures.stored at (sym c.if-not-is_stored_as.ensures))

pub returns-then-n-lt8-clause-agreeing : goal.returns-then-n-lt8-clause-agreeing
returns-then-n-lt8-clause-agreeing c =
    at_once c.args.stored.now c.args.rest.now (omega arith) c.args.left (omega arith) (omega arith) (rw c.raw.ensures.stored at (sym c.if-not-is_stored_as.ensures))

pub returns-then-number_from-clause-agreeing : goal.returns-then-number_from-clause-agreeing
returns-then-number_from-clause-agreeing c =
    let from = c.max-from.result in
    no_more c.args.stored.now (length c.args.stored.now) c.args.rest.now c.args.left
    (λ h. c.if-number_from.true (c.number_from.ensures ∙ bytes_word c.args.stored.now (length c.args.stored.now) c.args.rest.now from (omega arith) (omega arith) (omega arith) h ∙ sym c.number_from-2.ensures))

pub returns-clause-agreeing : goal.returns-clause-agreeing
returns-clause-agreeing c =
    let from = c.max-from.result in
    let h = word_bytes c.args.stored.now (length c.args.stored.now) c.args.rest.now from (omega arith) (omega arith) (omega arith) (λ k. omega (arith, c.type_inv.stored k)) (λ k. omega (arith, c.type_inv.rest k)) (sym c.number_from.ensures ∙ c.if-number_from.false ∙ c.number_from-2.ensures) in
    agreed c.args.stored.now (length c.args.stored.now) c.args.rest.now from (omega arith) (omega arith) (omega arith) c.args.left c.min.result h (omega arith) (omega arith) (omega arith) (omega arith)
