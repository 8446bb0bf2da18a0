-- Where a dictionary's words and a page's bytes lie, for the goals on indices. Assumes nothing.
use Prim.Native.Nat.{ℕ, ◌*◌, ◌≤◌, ◌<◌}
use mathlib.Core.Path.{◌≡◌}
use native.Mathlib.Omega.{arith}
use native.Mathlib.Nat.{mul-le-mul}
use Rattle.layout.specs.declared.Sizes.{Sizes}
use Rattle.layout.specs.Sizes.{InRange, page_size}
use Rattle.layout.proofs.Ranges.{page-size}
use Rattle.layout.proofs.Places.{dict-within, list-bytes}

-- The address of a page is small.
pub start-in : (s : Sizes) (page size : ℕ) → InRange s → page < s.n → size ≡ page_size s → page * size ≤ 1073741824
start-in s page size r h e = let l : page ≤ 1024 = omega (arith, r.n) in rw e (mul-le-mul l (page-size s r).1)

pub ruleset inside = (dict-within, list-bytes, start-in)
