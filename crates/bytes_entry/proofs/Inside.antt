-- The words of a dictionary lie inside `lists`. Assumes nothing.
use Prim.Native.Nat.{ℕ, ◌+◌, ◌*◌, ◌≤◌, ◌<◌}
use mathlib.Core.Path.{◌≡◌}
use native.Mathlib.Omega.{arith}
use Rattle.layout.specs.declared.Sizes.{Sizes}
use Rattle.layout.specs.Sizes.{InRange, dictionaries, page_size, list_bytes}
use Rattle.layout.proofs.Ranges.{page-bytes, in-pages}
use Rattle.layout.specs.Fields.{dict_at}
use Rattle.layout.proofs.Places.{dict-within, list-bytes}

-- The words of a dictionary end inside `lists`, and their indices are small.
pub words-in : (s : Sizes) (d : ℕ) → InRange s → d < dictionaries → (8 * (dict_at s d + 3 * s.e) ≤ list_bytes s) × (dict_at s d + 3 * s.e ≤ 1073741824)
words-in s d r l = let w = dict-within s d l in (omega (arith, list-bytes s), omega (arith, r.n, r.e))

-- A page lies in the pages, and so nothing overflows.
pub page_in : (s : Sizes) (i size : ℕ) → InRange s → i + 1 ≤ s.n → size ≡ page_size s → i * size + size ≤ 1073741824
page_in s i size r h e = rw e (omega (arith, in-pages s i (page_size s) (omega arith) (omega arith), page-bytes s r))

-- For the stores of an entry's words.
pub ruleset inside = (words-in)
