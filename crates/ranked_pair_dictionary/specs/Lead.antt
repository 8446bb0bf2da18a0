-- The fields of a lead that is held by value, and the bytes that they stand for. Assumes nothing.
use Rattle.std.specs.Prelude.{ℕ, ◌≡◌, ◌-◌, ◌≤◌, ◌++◌, List, length, take, replicate}
use Rattle.std.proofs.Common.{arith, length-take-le, sym, ap, ◌∙◌}
use Rattle.ranked_pair_dictionary.specs.declared.Lead.TheInside.{Inside}

abbrev pub lead_bytes : Inside → List ℕ
lead_bytes x = take x.len x.bytes

-- Four bytes hold a lead: its own, and zeros behind them.
pub record IsLead (x : Inside) : Type 0 where
  pub within : x.len ≤ 4
  pub size : length x.bytes ≡ 4
  pub padded : x.bytes ≡ take x.len x.bytes ++ replicate (4 - x.len) 0

-- The fields of a lead, from its bytes.
abbrev pub lead_held : List ℕ → Inside
lead_held s = record { bytes = s ++ replicate (4 - length s) 0; len = length s }

lead-length : (x : Inside) → IsLead x → length (lead_bytes x) ≡ x.len
lead-length x h = length-take-le x.len x.bytes (omega (arith, h.within, h.size))

pub lead_held_back : (x : Inside) → IsLead x → lead_held (lead_bytes x) ≡ x
lead_held_back x h =
    let n = lead-length x h in
    let b : lead_bytes x ++ replicate (4 - length (lead_bytes x)) 0 ≡ x.bytes =
    ap (λ (k : ℕ). lead_bytes x ++ replicate (4 - k) 0) n ∙ sym h.padded in
    λ i. record { bytes = b i; len = n i }
