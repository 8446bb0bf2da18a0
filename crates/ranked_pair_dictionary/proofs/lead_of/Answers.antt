-- `ranked_pair_dictionary::lead_of` meets its contract: the word's bytes are the form, with zeros behind it.
use Rattle.std.proofs.Common.{ℕ, suc, zero, ◌≡◌, ◌+◌, ◌*◌, ◌-◌, ◌%◌, ◌^◌, ◌<◌, ◌≤◌, ◌∷◌, ◌++◌, take, replicate, refl, ap, ◌∙◌, arith}
use Rattle.std.specs.Int.{w32, to_be_bytes}
use Rattle.slices.specs.Bytes.{Bytes}
use Rattle.ranked_pair_dictionary.specs.FrequentId.{frequent_id, further_bytes, fid}
use Rattle.ranked_pair_dictionary.proofs.Laws.{further-le, fid-holds}
use Rattle.ranked_pair_dictionary.proofs.lead_of.Goals as goal

-- The word of the value v with n further bytes.
abbrev word : ℕ → ℕ → ℕ
word n v = n * 1073741824 % 18446744073709551616 + v * 2 ^ (24 - 8 * n) % 18446744073709551616

-- What the four bytes of the word are.
record Held (n v w : ℕ) : Type 0 where
  fits : w < 2 ^ 32
  front : take (n + 1) (to_be_bytes w32 w) ≡ frequent_id n v
  padded : to_be_bytes w32 w ≡ take (n + 1) (to_be_bytes w32 w) ++ replicate (4 - (n + 1)) 0

next : {a b : ℕ} {s t : Bytes} → a ≡ b → s ≡ t → a ∷ s ≡ b ∷ t
next p q = cc

held : (n v : ℕ) → n ≤ 3 → v < 64 * 256 ^ n → Held n v (word n v)
unfolding frequent_id
held zero v h l = record {
  fits = omega arith;
  front = next (omega arith) refl;
  padded = next refl (next (omega arith) (next (omega arith) (next (omega arith) refl)));
}
held (suc zero) v h l = record {
  fits = omega arith;
  front = next (omega arith) (next (omega arith) refl);
  padded = next refl (next refl (next (omega arith) (next (omega arith) refl)));
}
held (suc (suc zero)) v h l = record {
  fits = omega arith;
  front = next (omega arith) (next (omega arith) (next (omega arith) refl));
  padded = next refl (next refl (next refl (next (omega arith) refl)));
}
held (suc (suc (suc zero))) v h l = record {
  fits = omega arith;
  front = next (omega arith) (next (omega arith) (next (omega arith) (next (omega arith) refl)));
  padded = refl;
}
held (suc (suc (suc (suc n)))) v h l = absurd (omega arith)

value-held : (v n : ℕ) → n ≡ further_bytes v → v < 2 ^ 30 → Held n v (word n v)
value-held v n e h = held n v (omega (arith, further-le v)) (rw e (fid-holds v h))

pub overflow_cast-word : goal.overflow_cast-word
overflow_cast-word c = omega (arith, (value-held c.args.value _ c.further_bytes-further.ensures.0 c.requires).fits)

pub invariant_of-result : goal.invariant_of-result
invariant_of-result c =
    let h = value-held c.args.value _ c.further_bytes-further.ensures.0 c.requires in
    let e = c.to_be_bytes.ensures in
    record { within = omega arith; size = rw e refl; padded = rw e h.padded }

pub returns : goal.returns
unfolding fid
returns c =
    let h = value-held c.args.value _ c.further_bytes-further.ensures.0 c.requires in
    let e = c.to_be_bytes.ensures in
    rw e h.front ∙ ap (λ (n : ℕ). frequent_id n c.args.value) c.further_bytes-further.ensures.0
