-- A header and zeroed words behind it hold the store with no entry, and so does freshly initialised memory. Assumes nothing.
use Prim.Native.Nat.{ℕ, zero, suc, ◌+◌, ◌*◌, ◌/◌, ◌%◌, ◌≤◌, ◌<◌}
use mathlib.Core.Path.{◌≡◌, refl, sym, subst, ◌∙◌}
use mathlib.Core.Option.{none, some}
use native.Mathlib.Omega.{arith}
use lib.ListN.{length, get_or}
use Rattle.slices.specs.Bytes.{Bytes}
use Rattle.words.specs.Words.{le_at, word_at, quad_at, number_at}
use Rattle.words.proofs.Laws.{quad-zero}
use Rattle.layout.specs.declared.Sizes.{Sizes}
use Rattle.layout.specs.Sizes.{InRange, page_bytes, list_bytes}
use Rattle.layout.specs.Fields.{untaken_at, count_at, entry_at, place_at}
use Rattle.layout.proofs.Places.{dict-from, list-bytes}
use Rattle.header.specs.Header.{HeaderOf}
use Rattle.header.specs.Opened.{opened_lists}
use Rattle.header.proofs.Opened.{opened-zero, opened-header}
use Rattle.bytes_index.specs.Entries.{Holds}
use Rattle.bytes_index.proofs.Filled.{filled_none}
use Rattle.bytes_buffer.proofs.Tables.{opened-pages}
use Rattle.bytes_dictionary.specs.Store.{empty_store, StoreAt}
use Rattle.bytes_entry.proofs.Inside.{words-in}

-- Every word of `lists` but the format and the sizes is 0.
abbrev pub Zeroed : Sizes → Bytes → Type 0
Zeroed s lists = (j : ℕ) → untaken_at ≤ j → 8 * j + 8 ≤ list_bytes s → word_at lists j ≡ 0

-- Each byte of a number that is 0 is 0.
le-zeros : (n : ℕ) (s : Bytes) (b : ℕ) → le_at n s b ≡ 0 → (k : ℕ) → k < n → get_or s (b + k) 0 ≡ 0
unfolding le_at
le-zeros zero s b z k l = absurd (omega arith)
le-zeros (suc n) s b z zero l = let e : b + zero ≡ b = omega arith in rw e (omega arith)
le-zeros (suc n) s b z (suc k) l =
    let e : b + suc k ≡ suc b + k = omega arith in
    rw e (le-zeros n s (suc b) (omega arith) k (omega arith))

-- Both quads of a word that is 0 are 0.
quad-in-zero : (s : Bytes) (q : ℕ) → word_at s (q / 2) ≡ 0 → quad_at s q ≡ 0
unfolding number_at
quad-in-zero s q z =
    quad-zero s q
    (λ k h.
    let e : 8 * (q / 2) + (4 * (q % 2) + k) ≡ 4 * q + k = omega arith in
    subst (λ (x : ℕ). get_or s x 0 ≡ 0) e (le-zeros 8 s (8 * (q / 2)) z (4 * (q % 2) + k) (omega arith)))

-- No entry and no filled place.
holds-none : (s : Sizes) (B W Q : ℕ → ℕ) → ((j : ℕ) → j < 2 * s.e → Q j ≡ 0) → Holds s B W Q (λ i. none)
holds-none s B W Q z =
    record {
      entry = λ i key u. no u;
      names = λ j l n. absurd (n (z j l));
      met = λ i key u. no u;
      count = filled_none Q (2 * s.e) z ∙ sym (filled_none (λ i. 0) s.e (λ i l. refl));
      apart = λ i j key u v. no u;
    }
  where
    no : {A : Type 0} {key : Bytes} → none ≡ some key → A
    no u = let q : ◌≡◌ {A = ℕ} 0 1 = cc in absurd (omega arith)

pub store-empty : (s : Sizes) (pages lists : Bytes) → InRange s → HeaderOf s (length pages) lists → Zeroed s lists → StoreAt s empty_store pages lists
store-empty s pages lists r h z =
    record {
      header = h;
      paged = opened-pages s (word_at lists) (λ j l h. z j l (omega (arith, list-bytes s)));
      dict = λ d dl.
          let w = (words-in s d r dl).0 in
          let b = dict-from s d in
          record {
            holds = holds-none s (λ a. get_or pages a 0) (λ i. word_at lists (entry_at s d i)) (λ j. quad_at lists (place_at s d j))
                (λ j l. quad-in-zero lists (place_at s d j) (z (place_at s d j / 2) (omega (arith, b)) (omega (arith, w))));
            counted = z (count_at d) (omega arith) (omega (arith, list-bytes s));
            most = omega arith;
            in_use = λ i l. absurd (omega arith);
            past = λ i l. refl;
            lies = λ i l. absurd (omega arith);
            rises = λ i l. absurd (omega arith);
            stamped = λ i l. absurd (omega arith);
            rising = λ i l. absurd (omega arith);
            unstamped = λ i l. refl;
          };
    }

-- Freshly initialised memory has no entry.
pub init-store : (s : Sizes) (pages lists : Bytes) → InRange s → page_bytes s ≤ length pages → list_bytes s ≤ length lists
    → StoreAt s empty_store pages (opened_lists s lists)
init-store s pages lists r f g = store-empty s pages (opened_lists s lists) r (opened-header s (length pages) lists r g f) (λ j l h. opened-zero s lists j l h)
