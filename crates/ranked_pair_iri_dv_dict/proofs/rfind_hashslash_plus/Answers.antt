-- `ranked_pair_iri_dv_dict::rfind_hashslash_plus` meets its contract: the head ends with the first mark that is met from the end.
use Rattle.std.proofs.Common.{ℕ, zero, suc, ◌≡◌, ◌-◌, ◌≤◌, ◌<◌, [], ◌∷◌, cond, length, get_or, take, Some, None, sym, ap, ◌∙◌, arith}
use lib.Seq.{take-length}
use Rattle.slices.specs.Bytes.{Bytes}
use Rattle.ranked_pair_iri_dv_dict.specs.Split.{is_mark, head_length, head_from, head_of}
use Rattle.ranked_pair_iri_dv_dict.proofs.Laws.{head-snoc}
use Rattle.ranked_pair_iri_dv_dict.proofs.rfind_hashslash_plus.Goals as goal

-- The last byte is a mark, and the head ends there, or the bytes before it have the same head.
last-byte : (s : Bytes) → 1 ≤ length s
    → head_length s ≡ cond (is_mark (get_or s (length s - 1) 0)) (length s) (head_length (take (length s - 1) s))
last-byte s h =
    let e : suc (length s - 1) ≡ length s = omega arith in
    let q = head-snoc s (length s - 1) (omega arith) in
    rw (e, take-length s) at q

met : (s : Bytes) (n : ℕ) → 0 < n → head_length s ≡ n → Some n ≡ head_of s
unfolding head_of
met s zero z e = absurd (omega arith)
met s (suc i) z e = ap head_from (sym e)

none-met : (s rest : Bytes) → length rest < 1 → head_length rest ≡ head_length s → None ≡ head_of s
unfolding head_of
none-met s [] z e = ap head_from e
none-met s (c ∷ cs) z e = absurd (omega arith)

pub returns-then-is_mark : goal.returns-then-is_mark
returns-then-is_mark c =
    let s = c.loop-rest.rest.now in
    let q = last-byte s c.in-len1-up.len_at_least in
    met c.args.iri.now (length s) c.in-len1-up.len_at_least (sym c.loop-rest.invariant ∙ (rw (← c.if-is_mark.ensures) at q))

pub loop-rest-preserved : goal.loop-rest-preserved
loop-rest-preserved c =
    let q = last-byte c.loop-rest.rest.now c.in-len1-up.len_at_least in
    sym (rw (← c.if-is_mark.ensures) at q) ∙ c.loop-rest.invariant

pub returns : goal.returns
returns c = none-met c.args.iri.now c.loop-rest.rest.now c.in_default.len_below c.loop-rest.invariant
