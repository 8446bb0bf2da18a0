-- Memory that agrees on what a dictionary reads still holds its entries. Assumes nothing.
use Prim.Native.Nat.{ℕ, ◌+◌, ◌*◌, ◌<◌}
use mathlib.Core.Path.{◌≡◌, sym, subst, ◌∙◌}
use mathlib.Core.Option.{some}
use native.Mathlib.Omega.{arith}
use lib.ListN.{length}
use Rattle.slices.specs.Bytes.{Bytes}
use Rattle.fnv.specs.Fnv.{fnv_of}
use Rattle.layout.specs.declared.Sizes.{Sizes}
use Rattle.bytes_index.specs.Place.{place_after}
use Rattle.bytes_index.specs.Entries.{Entries, address_of, Addresses, Holds}
use Rattle.bytes_index.proofs.Place.{place-lt}
use Rattle.bytes_index.proofs.Filled.{filled-agree}

-- The first n bytes of the entry word w are the same.
abbrev pub SameBytes : Sizes → (ℕ → ℕ) → (ℕ → ℕ) → ℕ → ℕ → Type 0
SameBytes s B B' w n = (k : ℕ) → k < n → B' (address_of s w + k) ≡ B (address_of s w + k)

pub addresses-agree : (s : Sizes) (B B' : ℕ → ℕ) (w w' : ℕ) (key : Bytes) → w' ≡ w → SameBytes s B B' w (length key) → Addresses s B w key → Addresses s B' w' key
addresses-agree s B B' w w' key q a t =
    subst (λ (x : ℕ). Addresses s B' x key) (sym q)
    (record { paged = t.paged; inside = t.inside; sized = t.sized; bytes = λ k l. a k l ∙ t.bytes k l })

pub holds_agree : (s : Sizes) (B W Q B' W' Q' : ℕ → ℕ) (es : Entries)
    → ((i : ℕ) (key : Bytes) → es i ≡ some key → W' i ≡ W i)
    → ((j : ℕ) → j < 2 * s.e → Q' j ≡ Q j)
    → ((i : ℕ) (key : Bytes) → es i ≡ some key → SameBytes s B B' (W i) (length key))
    → Holds s B W Q es → Holds s B' W' Q' es
holds_agree s B W Q B' W' Q' es we qe be H =
    record {
      entry = λ i key u. let h = H.entry i key u in (h.0, addresses-agree s B B' (W i) (W' i) key (we i key u) (be i key u) h.1);
      names = λ j l. rw (qe j l) (H.names j l);
      met = λ i key u.
          let M = H.met i key u in
          let at : (k : ℕ) → Q' (place_after (2 * s.e) (fnv_of key) k) ≡ Q (place_after (2 * s.e) (fnv_of key) k) =
          λ k. qe (place_after (2 * s.e) (fnv_of key) k) (place-lt (2 * s.e) (fnv_of key) k (omega (arith, M.near))) in
          record { step = M.step; near = M.near; there = at M.step ∙ M.there; full = λ k g. rw (at k) (M.full k g) };
      count = filled-agree Q Q' (2 * s.e) qe ∙ H.count;
      apart = H.apart;
    }
