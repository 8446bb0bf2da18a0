-- One entry more in one of the dictionaries of a memory: that one has it, and every other is as it was. Assumes nothing.
use Prim.Native.Nat.{ℕ, suc, ◌+◌, ◌*◌, ◌≤◌, ◌<◌}
use mathlib.Core.Path.{◌≡◌, sym, ap, subst, ◌∙◌}
use mathlib.Core.Logic.{◌≢◌, inl, inr, ⊎_elim}
use mathlib.Core.Option.{none, some}
use native.Mathlib.Omega.{arith}
use native.Mathlib.Decide.{ℕ_discrete, dec_lt}
use native.Mathlib.Nat.{mul-le-mul_right, suc-mul}
use lib.ListN.{length, get_or}
use lib.Seq.{sets}
use Rattle.slices.specs.Bytes.{Bytes}
use Rattle.slices.proofs.Sets.{get_d-sets-out, get_d-sets-in}
use Rattle.words.specs.Words.{word_at, quad_at}
use Rattle.fnv.specs.Fnv.{fnv_of}
use Rattle.layout.specs.declared.Sizes.{Sizes}
use Rattle.layout.specs.Sizes.{InRange, dictionaries, page_size, page_bytes}
use Rattle.layout.specs.Fields.{entry_at, order_at, place_at, page_at, entry_word, page_of, offset_of, size_of, owner_of, used_of, position_of}
use Rattle.layout.proofs.Ranges.{page-size, in-pages}
use Rattle.layout.proofs.Places.{entry-word}
use Rattle.bytes_index.specs.Entries.{Entries, address_of, Addresses, Misses}
use Rattle.bytes_buffer.specs.Pages.{upd}
use Rattle.bytes_dictionary.specs.Store.{page_word_of, Lies, LiesBefore, DictAt}
use Rattle.bytes_dictionary.proofs.Updates.{upd_same, upd_other, more-old}
use Rattle.bytes_dictionary.proofs.Frame.{SameBytes, holds_agree}
use Rattle.bytes_dictionary.proofs.More.{holds_more}
use Rattle.bytes_dictionary.proofs.Steps.{Step}
use Rattle.bytes_dictionary.proofs.Rooms.{Placed}

-- ---- numbers, over unknowns, so that `omega` meets no quotient

le-le : (a b c : ℕ) → a ≤ b → b ≤ c → a ≤ c
le-le a b c h g = omega arith

lt_both : (a b a' b' : ℕ) → a' ≡ a → b' ≡ b → a < b → a' < b'
lt_both a b a' b' p q h = omega arith

-- One page ends where the next one starts, or before.
page-below : (q p p' : ℕ) → p < p' → p * q + q ≤ p' * q
page-below q p p' l =
    let a : suc p * q ≤ p' * q = mul-le-mul_right q l in
    let b : suc p * q ≡ p * q + q = suc-mul p q in
    omega arith

-- A byte of an entry at o in page p, z bytes long, is none of n bytes at o' in page p'.
bytes_apart : (q p o z p' o' n x k : ℕ) → o + z ≤ q → o' + n ≤ q → (p ≡ p' → o + z ≤ o') → x < z → k < n → p * q + o + x ≢ p' * q + o' + k
bytes_apart q p o z p' o' n x k f f' h l l' = go (ℕ_discrete p p') (dec_lt p p')
  where
    go : Dec (p ≡ p') → Dec (p < p') → p * q + o + x ≢ p' * q + o' + k
    go (yes e) d = let g = h e in let m : p * q ≡ p' * q = ap (λ (y : ℕ). y * q) e in omega arith
    go (no e) (yes d) = omega (arith, page-below q p p' d)
    go (no e) (no d) = omega (arith, page-below q p' p (omega arith))

module _ (s : Sizes) (r : InRange s) (pages lists lists' : Bytes) (d n page offset stamp place : ℕ) (key : Bytes) (dl : d < dictionaries) (nl : n < s.e)
    (fit : page_bytes s ≤ length pages) (S : Step s lists lists' d n page offset (length key) stamp place (fnv_of key))
    (P : Placed s (word_at lists) (word_at lists') d page offset (length key)) where
  -- ---- the new entry's word

  abbrev new : ℕ
  new = entry_word page offset (length key)

  parts : (page_of new ≡ page) × (offset_of new ≡ offset) × (size_of new ≡ length key)
  parts = entry-word page offset (length key) (omega (arith, P.paged, r.n)) (omega (arith, P.inside, page-size s r))

  new-addresses : Addresses s (λ a. get_or (sets pages (page * page_size s + offset) key) a 0) new key
  new-addresses =
      let a : address_of s new ≡ page * page_size s + offset = λ i. parts.0 i * page_size s + parts.1 i in
      let b = in-pages s page (offset + length key) P.paged P.inside in
      record {
        paged = subst (λ (x : ℕ). x < s.n) (sym parts.0) P.paged;
        inside = subst (λ (x : ℕ). x ≤ page_size s) (sym (λ i. parts.1 i + parts.2 i)) P.inside;
        sized = parts.2;
        bytes = λ k l.
            subst (λ (x : ℕ). get_or (sets pages (page * page_size s + offset) key) (x + k) 0 ≡ get_or key k 0) (sym a)
            (get_d-sets-in key pages (page * page_size s + offset) k (omega arith) l);
      }

  new-page : page_word_of (word_at lists') new ≡ word_at lists' (page_at page)
  new-page = ap (λ (x : ℕ). word_at lists' (page_at x)) parts.0

  new-lies : Lies (word_at lists') d new
  new-lies =
      record {
        owner = ap owner_of new-page ∙ P.owner;
        ends = le-le _ _ _ (subst (λ (x : ℕ). x ≤ offset + length key) (sym (λ i. parts.1 i + parts.2 i)) (omega arith))
            (subst (λ (x : ℕ). offset + length key ≤ x) (sym (ap used_of new-page ∙ P.used)) (omega arith));
      }

  -- ---- an old entry of dictionary k

  module _ (k : ℕ) (es : Entries) (c : ℕ) (t : ℕ → ℕ) (kl : k < dictionaries) (D : DictAt s pages lists k es c t) where
    below : (i : ℕ) (x : Bytes) → es i ≡ some x → i < c
    below i x u = go (dec_lt i c)
      where
        go : Dec (i < c) → i < c
        go (yes h) = h
        go (no h) = let z : es i ≡ none = D.past i (omega arith) in let q : ◌≡◌ {A = ℕ} 0 1 = cc in absurd (omega arith)

    abbrev word : ℕ → ℕ
    word i = word_at lists (entry_at s k i)

    addressed : (i : ℕ) → i < c → (x : Bytes) × Addresses s (λ a. get_or pages a 0) (word_at lists (entry_at s k i)) x
    addressed i l = let u = D.in_use i l in (u.0, (D.holds.entry i u.0 u.1).1)

    -- no byte of it is written
    bytes_same : (i : ℕ) (x : Bytes) → es i ≡ some x
        → SameBytes s (λ a. get_or pages a 0) (λ a. get_or (sets pages (page * page_size s + offset) key) a 0) (word_at lists (entry_at s k i)) (length x)
    bytes_same i x u b l =
        let w : ℕ = word i in
        let T = (D.holds.entry i x u).1 in
        let L = D.lies i (below i x u) in
        get_d-sets-out key pages (page * page_size s + offset) (address_of s w + b)
        (λ j h.
        bytes_apart (page_size s) (page_of w) (offset_of w) (size_of w) page offset (length key) b j T.inside P.inside
        (λ e. le-le _ _ _ L.ends (subst (λ (y : ℕ). used_of (word_at lists (page_at y)) ≤ offset) (sym e) (P.behind k (subst (λ (y : ℕ). owner_of (word_at lists (page_at y)) ≡ suc k) e L.owner))))
        (subst (λ (y : ℕ). b < y) (sym T.sized) l)
        h)

    module _ (o : (i : ℕ) → i < c → k ≡ d → i ≢ n) where
      word_same : (i : ℕ) → i < c → word_at lists' (entry_at s k i) ≡ word_at lists (entry_at s k i)
      word_same i l = S.entries k i kl (omega (arith, D.most)) (o i l)

      lies_same : (i : ℕ) → i < c → Lies (word_at lists') k (word_at lists' (entry_at s k i))
      lies_same i l =
          let L = D.lies i l in
          let K = P.kept k (page_of (word i)) (addressed i l).1.paged L.owner in
          subst (Lies (word_at lists') k) (sym (word_same i l)) record { owner = K.owner ∙ L.owner; ends = le-le _ _ _ L.ends K.used }

      position-same : (i : ℕ) → i < c → position_of (page_word_of (word_at lists') (word_at lists (entry_at s k i))) ≡ position_of (page_word_of (word_at lists) (word_at lists (entry_at s k i)))
      position-same i l = (P.kept k (page_of (word i)) (addressed i l).1.paged (D.lies i l).owner).position

      rises-same : (i : ℕ) → i + 1 < c → LiesBefore (word_at lists') (word_at lists' (entry_at s k i)) (word_at lists' (entry_at s k (i + 1)))
      rises-same i l =
          let a : i < c = omega arith in
          subst (λ (x : ℕ). LiesBefore (word_at lists') x (word_at lists' (entry_at s k (i + 1)))) (sym (word_same i a))
          (subst (LiesBefore (word_at lists') (word i)) (sym (word_same (i + 1) l))
          (⊎_elim (λ h. inl (lt_both _ _ _ _ (position-same i a) (position-same (i + 1) l) h)) (λ h. inr h) (D.rises i l)))

      stamped-same : (i : ℕ) → i < c → word_at lists' (order_at s k i) ≡ t i
      stamped-same i l = S.orders k i kl (omega (arith, D.most)) (o i l) ∙ D.stamped i l

  -- ---- another dictionary

  pub dict-other : (k : ℕ) (es : Entries) (c : ℕ) (t : ℕ → ℕ) → k < dictionaries → k ≢ d → DictAt s pages lists k es c t
      → DictAt s (sets pages (page * page_size s + offset) key) lists' k es c t
  dict-other k es c t kl q D =
      record {
        holds = holds_agree s (λ a. get_or pages a 0) (λ i. word_at lists (entry_at s k i)) (λ j. quad_at lists (place_at s k j))
            (λ a. get_or (sets pages (page * page_size s + offset) key) a 0) (λ i. word_at lists' (entry_at s k i)) (λ j. quad_at lists' (place_at s k j)) es
            (λ i x u. word_same k es c t kl D away i (below k es c t kl D i x u))
            (λ j l. S.places k j kl l (λ e. absurd (q e)))
            (bytes_same k es c t kl D)
            D.holds;
        counted = S.counts k kl q ∙ D.counted;
        most = D.most;
        in_use = D.in_use;
        past = D.past;
        lies = lies_same k es c t kl D away;
        rises = rises-same k es c t kl D away;
        stamped = stamped-same k es c t kl D away;
        rising = D.rising;
        unstamped = D.unstamped;
      }
    where
      away : (i : ℕ) → i < c → k ≡ d → i ≢ n
      away i l e = absurd (q e)

  -- ---- the entry's own

  module _ (es : Entries) (t : ℕ → ℕ) (D : DictAt s pages lists d es n t) where
    own : (i : ℕ) → i < n → d ≡ d → i ≢ n
    own i l e = omega arith

    -- What holds of the old entries and of the new one holds of them all.
    each : (Q : ℕ → Type 0) → ((i : ℕ) → i < n → Q i) → Q n → (i : ℕ) → i < n + 1 → Q i
    each Q old one i l = go (dec_lt i n)
      where
        go : Dec (i < n) → Q i
        go (yes h) = old i h
        go (no h) = let e : n ≡ i = omega arith in subst Q e one

    -- The last old entry lies before the new one.
    rises-new : (i : ℕ) → i + 1 ≡ n → LiesBefore (word_at lists') (word_at lists' (entry_at s d i)) (word_at lists' (entry_at s d n))
    rises-new i e =
        let l : i < n = omega arith in
        let w : ℕ = word_at lists (entry_at s d i) in
        let L = D.lies i l in
        let p : page_of w < s.n = (addressed d es n t dl D i l).1.paged in
        subst (λ (x : ℕ). LiesBefore (word_at lists') x (word_at lists' (entry_at s d n))) (sym (word_same d es n t dl D own i l))
        (subst (LiesBefore (word_at lists') w) (sym S.entry)
        (⊎_elim (λ h. inl (lt_both _ _ _ _ (position-same d es n t dl D own i l) (ap position_of new-page) h))
        (λ h.
        inr (
          h ∙ sym parts.0,
          subst (λ (x : ℕ). offset_of w + size_of w ≤ x) (sym parts.1)
              (le-le _ _ _ L.ends
              (subst (λ (y : ℕ). used_of (word_at lists (page_at y)) ≤ offset) (sym h) (P.behind d (subst (λ (y : ℕ). owner_of (word_at lists (page_at y)) ≡ suc d) h L.owner)))),
        ))
        (P.last (page_of w) p L.owner)))

    pub dict-own : ((i : ℕ) → i + 1 ≡ n → t i < stamp) → Misses s (λ j. quad_at lists (place_at s d j)) es key place
        → DictAt s (sets pages (page * page_size s + offset) key) lists' d (upd es n (some key)) (n + 1) (upd t n stamp)
    dict-own later M =
        record {
          holds = holds_more s (λ a. get_or pages a 0) (λ i. word_at lists (entry_at s d i)) (λ j. quad_at lists (place_at s d j))
              (λ a. get_or (sets pages (page * page_size s + offset) key) a 0) (λ i. word_at lists' (entry_at s d i)) (λ j. quad_at lists' (place_at s d j)) es n key place
              (D.past n (omega arith))
              nl
              (subst (λ (x : ℕ). Addresses s (λ a. get_or (sets pages (page * page_size s + offset) key) a 0) x key) (sym S.entry) new-addresses)
              S.named
              (λ i x u. word_same d es n t dl D own i (below d es n t dl D i x u))
              (λ j l q. S.places d j dl l (λ e. q))
              (bytes_same d es n t dl D)
              M
              D.holds;
          counted = S.counted;
          most = omega arith;
          in_use = each (λ i. (x : Bytes) × (upd es n (some key) i ≡ some x))
              (λ i l. let u = D.in_use i l in (u.0, more-old es n key (D.past n (omega arith)) i u.0 u.1))
              (key, upd_same es n (some key));
          past = λ i l. upd_other es n (some key) i (omega arith) ∙ D.past i (omega arith);
          lies = each (λ i. Lies (word_at lists') d (word_at lists' (entry_at s d i))) (lies_same d es n t dl D own)
              (subst (Lies (word_at lists') d) (sym S.entry) new-lies);
          rises = λ i l. rises-all i l (dec_lt (i + 1) n);
          stamped = each (λ i. word_at lists' (order_at s d i) ≡ upd t n stamp i)
              (λ i l. stamped-same d es n t dl D own i l ∙ sym (upd_other t n stamp i (omega arith)))
              (S.order ∙ sym (upd_same t n stamp));
          rising = λ i l. stamps-rise i l (dec_lt (i + 1) n);
          unstamped = λ i l. upd_other t n stamp i (omega arith) ∙ D.unstamped i (omega arith);
        }
      where
        rises-all : (i : ℕ) → i + 1 < n + 1 → Dec (i + 1 < n) → LiesBefore (word_at lists') (word_at lists' (entry_at s d i)) (word_at lists' (entry_at s d (i + 1)))
        rises-all i l (yes h) = rises-same d es n t dl D own i h
        rises-all i l (no h) =
            let e : i + 1 ≡ n = omega arith in
            subst (λ (x : ℕ). LiesBefore (word_at lists') (word_at lists' (entry_at s d i)) (word_at lists' (entry_at s d x))) (sym e) (rises-new i e)

        stamps-rise : (i : ℕ) → i + 1 < n + 1 → Dec (i + 1 < n) → upd t n stamp i < upd t n stamp (i + 1)
        stamps-rise i l (yes h) = lt_both _ _ _ _ (upd_other t n stamp i (omega arith)) (upd_other t n stamp (i + 1) (omega arith)) (D.rising i h)
        stamps-rise i l (no h) =
            let e : i + 1 ≡ n = omega arith in
            lt_both _ _ _ _ (upd_other t n stamp i (omega arith)) (ap (upd t n stamp) e ∙ upd_same t n stamp) (later i e)
