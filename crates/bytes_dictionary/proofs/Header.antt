-- The header of a memory that stands for a store passes its check. It stays a header if its words stay and the slices are long enough. Assumes nothing.
use Prim.Native.Nat.{ℕ, ◌≤◌, ◌<◌}
use mathlib.Core.Path.{◌≡◌, ◌∙◌}
use native.Mathlib.Omega.{arith}
use lib.ListN.{length}
use Rattle.std.specs.Prelude.{Ok}
use Rattle.slices.specs.Bytes.{Bytes}
use Rattle.words.specs.Words.{word_at}
use Rattle.layout.specs.declared.Sizes.{Sizes}
use Rattle.layout.specs.Sizes.{page_bytes, list_bytes}
use Rattle.header.specs.Header.{sizes_in, header_of, HeaderOf}
use Rattle.header.proofs.Opening.{passes}
use Rattle.bytes_dictionary.specs.Store.{Store, StoreAt}

pub store-passes : (s : Sizes) (st : Store) (pages lists : Bytes) → StoreAt s st pages lists → header_of (length pages) lists ≡ Ok s
store-passes s st pages lists S = passes s pages lists S.header

pub header-kept : (s : Sizes) (pages pages' : ℕ) (lists lists' : Bytes) → page_bytes s ≤ pages' → list_bytes s ≤ length lists'
    → ((j : ℕ) → j < 6 → word_at lists' j ≡ word_at lists j) → HeaderOf s pages lists → HeaderOf s pages' lists'
header-kept s pages pages' lists lists' f g w H =
    let e : sizes_in lists' ≡ sizes_in lists =
    λ i. record { p = w 1 (omega arith) i; n = w 2 (omega arith) i; e = w 3 (omega arith) i; w = w 4 (omega arith) i; b = w 5 (omega arith) i } in
    record {
      format-is = w 0 (omega arith) ∙ H.format-is;
      sizes-are = e ∙ H.sizes-are;
      ranged = H.ranged;
      pages-fit = f;
      lists-fit = g;
    }
