-- One entry more in a dictionary: its key was searched for and missed. Assumes nothing.
use Prim.Native.Nat.{ℕ, ◌*◌, ◌<◌}
use mathlib.Core.Path.{◌≡◌, sym, ap, subst, ◌∙◌}
use mathlib.Core.Logic.{◌≢◌, ⊎_elim}
use mathlib.Core.Option.{none, some}
use native.Mathlib.Omega.{arith}
use native.Mathlib.Decide.{ℕ_discrete}
use lib.ListN.{length}
use Rattle.slices.specs.Bytes.{Bytes}
use Rattle.fnv.specs.Fnv.{fnv_of}
use Rattle.layout.specs.declared.Sizes.{Sizes}
use Rattle.layout.specs.Fields.{place_word}
use Rattle.bytes_index.specs.Place.{place_after}
use Rattle.bytes_index.specs.Entries.{Entries, used, Addresses, Met, Holds, Misses}
use Rattle.bytes_index.proofs.Place.{place-lt}
use Rattle.bytes_index.proofs.Filled.{filled_put}
use Rattle.bytes_buffer.specs.Pages.{upd}
use Rattle.bytes_dictionary.proofs.Updates.{upd_same, upd_other, more-cases, more-old}
use Rattle.bytes_dictionary.proofs.Frame.{SameBytes, addresses-agree}

module _ (s : Sizes) (B W Q B' W' Q' : ℕ → ℕ) (es : Entries) (n : ℕ) (key : Bytes) (j : ℕ) where
  pub holds_more : es n ≡ none → n < s.e
      → Addresses s B' (W' n) key
      → Q' j ≡ place_word n (fnv_of key)
      → ((i : ℕ) (k : Bytes) → es i ≡ some k → W' i ≡ W i)
      → ((k : ℕ) → k < 2 * s.e → k ≢ j → Q' k ≡ Q k)
      → ((i : ℕ) (k : Bytes) → es i ≡ some k → SameBytes s B B' (W i) (length k))
      → Misses s Q es key j
      → Holds s B W Q es → Holds s B' W' Q' (upd es n (some key))
  holds_more z room new put we qe be M H =
      record {
        entry = λ i k u.
            ⊎_elim (λ h. subst (λ (x : ℕ). (x < s.e) × Addresses s B' (W' x) k) (sym h.0) (room, subst (Addresses s B' (W' n)) h.1 new))
            (λ h. let o = H.entry i k h.1 in (o.0, addresses-agree s B B' (W i) (W' i) k (we i k h.1) (be i k h.1) o.1))
            (more-cases es n key i k u);
        names = λ k l. named k l (ℕ_discrete k j);
        met = λ i k u.
            ⊎_elim (λ h. subst (λ (x : ℕ). Met Q' (2 * s.e) (fnv_of k) x) (sym h.0) (subst (λ (x : Bytes). Met Q' (2 * s.e) (fnv_of x) n) h.1 added))
            (λ h. moved (fnv_of k) i (H.met i k h.1))
            (more-cases es n key i k u);
        count = omega (
          arith,
          H.count,
          filled_put Q Q' (2 * s.e) j inside free (omega arith) qe,
          filled_put (λ i. used (es i)) (λ i. used (upd es n (some key) i)) s.e n room (ap used z) (rw (ap used (upd_same es n (some key))) (omega arith))
              (λ i l q. ap used (upd_other es n (some key) i q)),
        );
        apart = λ i k x u v.
            ⊎_elim
            (λ h. ⊎_elim (λ g. h.0 ∙ sym g.0) (λ g. absurd (M.absent k (g.1 ∙ ap some (sym h.1)))) (more-cases es n key k x v))
            (λ h. ⊎_elim (λ g. absurd (M.absent i (h.1 ∙ ap some (sym g.1)))) (λ g. H.apart i k x h.1 g.1) (more-cases es n key k x v))
            (more-cases es n key i x u);
      }
    where
      free : Q j ≡ 0
      free = M.free.empty

      inside : j < 2 * s.e
      inside = rw M.free.here at (place-lt (2 * s.e) (fnv_of key) M.free.step (omega arith))

      -- what was not empty stays
      stays : (h k : ℕ) → Q (place_after (2 * s.e) h k) ≢ 0 → Q' (place_after (2 * s.e) h k) ≡ Q (place_after (2 * s.e) h k)
      stays h k f = qe (place_after (2 * s.e) h k) (place-lt (2 * s.e) h k (omega arith)) (λ q. f (ap Q q ∙ free))

      named : (k : ℕ) → k < 2 * s.e → Dec (k ≡ j) → Q' k ≢ 0 → (i : ℕ) × (x : Bytes) × (upd es n (some key) i ≡ some x) × (Q' k ≡ place_word i (fnv_of x))
      named k l (yes q) = λ f. (n, key, upd_same es n (some key), ap Q' q ∙ put)
      named k l (no q) = rw (qe k l q) (λ f. let o = H.names k l f in (o.0, o.1, more-old es n key z o.0 o.1 o.2, o.3))

      moved : (h i : ℕ) → Met Q (2 * s.e) h i → Met Q' (2 * s.e) h i
      moved h i N =
          record {
            step = N.step;
            near = N.near;
            there = stays h N.step (omega (arith, N.there)) ∙ N.there;
            full = λ k g. rw (stays h k (N.full k g)) (N.full k g);
          }

      added : Met Q' (2 * s.e) (fnv_of key) n
      added =
          let F = M.free in
          record {
            step = F.step;
            near = F.near;
            there = ap Q' F.here ∙ put;
            full = λ k g. rw (stays (fnv_of key) k (F.full k g)) (F.full k g);
          }
