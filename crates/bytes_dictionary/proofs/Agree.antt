-- A store depends on no byte of `pages` beyond what the sizes need, and on no byte of `lists` behind the dictionaries' words. Memory that agrees up to
-- there, as after a write of block words, stands for the same store. Assumes nothing.
use Prim.Native.Nat.{ℕ, ◌+◌, ◌*◌, ◌≤◌, ◌<◌}
use mathlib.Core.Path.{◌≡◌, sym, ap, subst, ◌∙◌}
use mathlib.Core.Logic.{inl, inr, ⊎_elim}
use native.Mathlib.Omega.{arith}
use lib.ListN.{length, get_or}
use Rattle.slices.specs.Bytes.{Bytes}
use Rattle.words.specs.Words.{word_at, quad_at}
use Rattle.words.proofs.Laws.{word-agree, quad-agree}
use Rattle.layout.specs.declared.Sizes.{Sizes}
use Rattle.layout.specs.Sizes.{dictionaries, page_bytes, list_bytes}
use Rattle.layout.specs.Fields.{untaken_at, current_at, taken_at, page_at, count_at, dict_at, entry_at, place_at, page_of, offset_of, size_of, owner_of, used_of, position_of}
use Rattle.layout.proofs.Ranges.{in-pages}
use Rattle.layout.proofs.Places.{dict-from, dict-below}
use Rattle.bytes_index.specs.Entries.{Entries, address_of, Addresses}
use Rattle.bytes_buffer.proofs.Tables.{framed}
use Rattle.bytes_dictionary.specs.Store.{Store, page_word_of, Lies, LiesBefore, DictAt, StoreAt}
use Rattle.bytes_dictionary.proofs.Frame.{SameBytes, holds_agree}
use Rattle.bytes_dictionary.proofs.Header.{header-kept}

module _ (s : Sizes) (pages pages' lists lists' : Bytes) (same-pages : (i : ℕ) → i < page_bytes s → get_or pages' i 0 ≡ get_or pages i 0)
    (same : (i : ℕ) → i < 8 * dict_at s dictionaries → get_or lists' i 0 ≡ get_or lists i 0) where
  words_same : (j : ℕ) → j < dict_at s dictionaries → word_at lists' j ≡ word_at lists j
  words_same j l = word-agree lists' lists j (λ k h. same (8 * j + k) (omega arith))

  -- A word before the dictionaries' ones.
  first-same : (j : ℕ) → j < 64 + s.n → word_at lists' j ≡ word_at lists j
  first-same j l = words_same j (omega (arith, dict-from s dictionaries))

  dict-same : (d : ℕ) (es : Entries) (c : ℕ) (t : ℕ → ℕ) → d < dictionaries → DictAt s pages lists d es c t → DictAt s pages' lists' d es c t
  dict-same d es c t dl D =
      record {
        holds = holds_agree s (λ a. get_or pages a 0) (λ i. word_at lists (entry_at s d i)) (λ j. quad_at lists (place_at s d j)) (λ a. get_or pages' a 0)
            (λ i. word_at lists' (entry_at s d i)) (λ j. quad_at lists' (place_at s d j)) es
            (λ i key u. own i (omega (arith, (D.holds.entry i key u).0)))
            (λ j l. quad-agree lists' lists (place_at s d j) (λ k h. same (4 * place_at s d j + k) (omega (arith, b))))
            (λ i key u k l. bytes (D.holds.entry i key u).1 k l)
            D.holds;
        counted = first-same (count_at d) (omega arith) ∙ D.counted;
        most = D.most;
        in_use = D.in_use;
        past = D.past;
        lies = λ i l.
            let L = D.lies i l in
            subst (Lies (word_at lists') d) (sym (entry i l))
            (record { owner = ap owner_of (page i l) ∙ L.owner; ends = subst (λ (x : ℕ). offset_of (word i) + size_of (word i) ≤ used_of x) (sym (page i l)) L.ends });
        rises = λ i l.
            let a : i < c = omega arith in
            subst (λ (x : ℕ). LiesBefore (word_at lists') x (word_at lists' (entry_at s d (i + 1)))) (sym (entry i a))
            (subst (LiesBefore (word_at lists') (word i)) (sym (entry (i + 1) l))
            (⊎_elim (λ h. inl (subst (λ (x : ℕ). x < position_of (page_word_of (word_at lists') (word (i + 1)))) (sym (ap position_of (page i a)))
            (subst (λ (x : ℕ). position_of (page_word_of (word_at lists) (word i)) < x) (sym (ap position_of (page (i + 1) l))) h)))
            (λ h. inr h)
            (D.rises i l)));
        stamped = λ i l. own (s.e + i) (omega (arith, D.most)) ∙ D.stamped i l;
        rising = D.rising;
        unstamped = D.unstamped;
      }
    where
      b : dict_at s d + 3 * s.e ≤ dict_at s dictionaries
      b = dict-below s d dictionaries dl

      own : (y : ℕ) → y < 2 * s.e → word_at lists' (dict_at s d + y) ≡ word_at lists (dict_at s d + y)
      own y l = words_same (dict_at s d + y) (omega (arith, b))

      bytes : {w : ℕ} {key : Bytes} → Addresses s (λ a. get_or pages a 0) w key → SameBytes s (λ a. get_or pages a 0) (λ a. get_or pages' a 0) w (length key)
      bytes {w} {key} t k l = same-pages (address_of s w + k) (omega (arith, t.sized, in-pages s (page_of w) (offset_of w + size_of w) t.paged t.inside))

      word : ℕ → ℕ
      word i = word_at lists (entry_at s d i)

      entry : (i : ℕ) → i < c → word_at lists' (entry_at s d i) ≡ word_at lists (entry_at s d i)
      entry i l = own i (omega (arith, D.most))

      page : (i : ℕ) → i < c → page_word_of (word_at lists') (word_at lists (entry_at s d i)) ≡ page_word_of (word_at lists) (word_at lists (entry_at s d i))
      page i l =
          let u = D.in_use i l in
          first-same (page_at (page_of (word_at lists (entry_at s d i)))) (omega (arith, (D.holds.entry i u.0 u.1).1.paged))

  pub store-agree : (st : Store) → page_bytes s ≤ length pages' → list_bytes s ≤ length lists' → StoreAt s st pages lists → StoreAt s st pages' lists'
  store-agree st f g S =
      record {
        header = header-kept s (length pages) (length pages') lists lists' f g (λ j h. first-same j (omega arith)) S.header;
        paged = framed s st.space (word_at lists) (word_at lists') S.paged
            (record {
              lowest = first-same untaken_at (omega arith);
              current = λ k h. first-same (current_at k) (omega arith);
              count = λ k h. first-same (taken_at k) (omega arith);
              pages = λ i h. first-same (page_at i) (omega arith);
            });
        dict = λ d dl. dict-same d (st.entries d) (st.count d) (st.stamp d) dl (S.dict d dl);
      }
