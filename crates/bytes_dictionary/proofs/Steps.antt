-- The words and quads of `lists` after an entry was written, of its own dictionary and of every other. Assumes nothing.
use Prim.Native.Nat.{ℕ, ◌+◌, ◌*◌, ◌^◌, ◌≤◌, ◌<◌}
use mathlib.Core.Path.{◌≡◌, ap, ◌∙◌}
use mathlib.Core.Logic.{◌≢◌, ◌⊎◌, inl, inr}
use native.Mathlib.Omega.{arith}
use native.Mathlib.Decide.{ℕ_discrete, dec_lt}
use lib.ListN.{length}
use Rattle.slices.specs.Bytes.{Bytes}
use Rattle.slices.proofs.Sets.{Outside}
use Rattle.words.specs.Words.{word_at, quad_at, set_word, set_quad}
use Rattle.words.proofs.Laws.{length-set_word, length-set_quad, word-set-same, word-set-other, quad-set-same, quad-set-other, word-set-quad, quad-set-word}
use Rattle.layout.specs.declared.Sizes.{Sizes}
use Rattle.layout.specs.Sizes.{InRange, dictionaries, list_bytes}
use Rattle.layout.specs.Fields.{untaken_at, current_at, taken_at, page_at, count_at, dict_at, entry_at, order_at, place_at, entry_word, place_word}
use Rattle.layout.proofs.Places.{dict-below, dict-from, list-bytes}
use Rattle.bytes_buffer.proofs.Tables.{SameTables}
use Rattle.bytes_entry.specs.Written.{entry_written}
use Rattle.bytes_entry.proofs.Inside.{words-in}

-- What the words of the dictionaries are after entry number n of dictionary d was written.
pub record Step (s : Sizes) (lists lists' : Bytes) (d n page offset len stamp place h : ℕ) : Type 0 where
  pub entry : word_at lists' (entry_at s d n) ≡ entry_word page offset len
  pub order : word_at lists' (order_at s d n) ≡ stamp
  pub named : quad_at lists' (place_at s d place) ≡ place_word n h
  pub counted : word_at lists' (count_at d) ≡ n + 1
  pub entries : (k i : ℕ) → k < dictionaries → i < s.e → (k ≡ d → i ≢ n) → word_at lists' (entry_at s k i) ≡ word_at lists (entry_at s k i)
  pub orders : (k i : ℕ) → k < dictionaries → i < s.e → (k ≡ d → i ≢ n) → word_at lists' (order_at s k i) ≡ word_at lists (order_at s k i)
  pub places : (k j : ℕ) → k < dictionaries → j < 2 * s.e → (k ≡ d → j ≢ place) → quad_at lists' (place_at s k j) ≡ quad_at lists (place_at s k j)
  pub counts : (k : ℕ) → k < dictionaries → k ≢ d → word_at lists' (count_at k) ≡ word_at lists (count_at k)

-- ---- where words lie

-- Two dictionaries' words follow one another; one dictionary's are where they are.
abbrev Apart : Sizes → ℕ → ℕ → Type 0
Apart s k d = ((k ≡ d) × (dict_at s k ≡ dict_at s d)) ⊎ ((k ≢ d) × ((dict_at s k + 3 * s.e ≤ dict_at s d) ⊎ (dict_at s d + 3 * s.e ≤ dict_at s k)))

sides : (s : Sizes) (k d : ℕ) → Apart s k d
sides s k d = go (ℕ_discrete k d) (dec_lt k d)
  where
    go : Dec (k ≡ d) → Dec (k < d) → Apart s k d
    go (yes p) q = inl (p, ap (dict_at s) p)
    go (no p) (yes q) = inr (p, inl (dict-below s k d q))
    go (no p) (no q) = inr (p, inr (dict-below s d k (omega arith)))

-- A word that is none of dictionary d's places, entry n, order n, or count.
pub record Off (s : Sizes) (d n j : ℕ) : Type 0 where
  pub entry : j ≢ entry_at s d n
  pub order : j ≢ order_at s d n
  pub count : j ≢ count_at d
  pub places : (j < dict_at s d + 2 * s.e) ⊎ (dict_at s d + 3 * s.e ≤ j)

-- A word before a dictionary's places, or behind them, has no byte of one.
word-off : (s : Sizes) (d x j : ℕ) → x < 2 * s.e → (j < dict_at s d + 2 * s.e) ⊎ (dict_at s d + 3 * s.e ≤ j)
    → (k : ℕ) → k < 8 → Outside (4 * place_at s d x) 4 (8 * j + k)
word-off s d x j l (inl h) k g b u = omega arith
word-off s d x j l (inr h) k g b u = omega arith

-- And no place has a byte of such a word.
place-off : (s : Sizes) (d x j : ℕ) → x < 2 * s.e → (j < dict_at s d + 2 * s.e) ⊎ (dict_at s d + 3 * s.e ≤ j)
    → (k : ℕ) → k < 4 → Outside (8 * j) 8 (4 * place_at s d x + k)
place-off s d x j l (inl h) k g b u = omega arith
place-off s d x j l (inr h) k g b u = omega arith

-- A word of another dictionary, or one of this before its places.
off-dict : (s : Sizes) (d n k y : ℕ) → n < s.e → d < dictionaries → y < 2 * s.e → (k ≡ d → (y ≢ n) × (y ≢ s.e + n)) → Off s d n (dict_at s k + y)
off-dict s d n k y nl dl l o = go (sides s k d)
  where
    f : 64 + s.n ≤ dict_at s k
    f = dict-from s k

    go : Apart s k d → Off s d n (dict_at s k + y)
    go (inl p) =
        let q = o p.0 in
        record { entry = omega (arith, p.1, q.0); order = omega (arith, p.1, q.1); count = omega (arith, f); places = inl (omega (arith, p.1)) }
    go (inr p) = far p.1
      where
        far : (dict_at s k + 3 * s.e ≤ dict_at s d) ⊎ (dict_at s d + 3 * s.e ≤ dict_at s k) → Off s d n (dict_at s k + y)
        far (inl h) = record { entry = omega arith; order = omega arith; count = omega (arith, f); places = inl (omega arith) }
        far (inr h) = record { entry = omega arith; order = omega arith; count = omega (arith, f); places = inr (omega arith) }

-- A word below the dictionaries'.
pub off-below : (s : Sizes) (d n j : ℕ) → j < 64 + s.n → j ≢ count_at d → Off s d n j
off-below s d n j l q =
    let f = dict-from s d in
    record { entry = omega (arith, f); order = omega (arith, f); count = q; places = inl (omega (arith, f)) }

-- A word behind them.
pub off-behind : (s : Sizes) (d n j : ℕ) → n < s.e → d < dictionaries → dict_at s dictionaries ≤ j → Off s d n j
off-behind s d n j nl dl l =
    let b = dict-below s d dictionaries dl in
    let f = dict-from s d in
    record { entry = omega (arith, b); order = omega (arith, b); count = omega (arith, b, f); places = inr (omega (arith, b)) }

-- ---- the entry's own words

module _ (s : Sizes) (lists : Bytes) (d n page offset len stamp place h : ℕ) where
  -- the lists after the first, the second and the third store
  one : Bytes
  one = set_word lists (entry_at s d n) (entry_word page offset len)

  two : Bytes
  two = set_word one (order_at s d n) stamp

  three : Bytes
  three = set_quad two (place_at s d place) (place_word n h)

  pub length-written : length (entry_written s lists d n page offset len stamp place h) ≡ length lists
  unfolding entry_written
  length-written = simp (length-set_word, length-set_quad)

  module _ (r : InRange s) (f : list_bytes s ≤ length lists) (dl : d < dictionaries) (nl : n < s.e) (pl : place < 2 * s.e) where
    inside : 8 * (dict_at s d + 3 * s.e) ≤ length lists
    inside = omega (arith, words-in s d r dl)

    pub word_kept : (j : ℕ) → Off s d n j → word_at (entry_written s lists d n page offset len stamp place h) j ≡ word_at lists j
    unfolding entry_written one two three
    word_kept j o =
        word-set-other three (count_at d) j (n + 1) o.count
        ∙ word-set-quad two j (place_at s d place) (place_word n h) (word-off s d place j pl o.places)
        ∙ word-set-other one (order_at s d n) j stamp o.order
        ∙ word-set-other lists (entry_at s d n) j (entry_word page offset len) o.entry

    -- A place of any dictionary but the one written.
    pub place_kept : (k j : ℕ) → j < 2 * s.e → (k ≡ d → j ≢ place) → quad_at (entry_written s lists d n page offset len stamp place h) (place_at s k j) ≡ quad_at lists (place_at s k j)
    unfolding entry_written one two three
    place_kept k j l o =
        quad-set-word three (place_at s k j) (count_at d) (n + 1) (place-off s k j (count_at d) l (inl (omega (arith, dict-from s k))))
        ∙ quad-set-other two (place_at s d place) (place_at s k j) (place_word n h) (other (sides s k d))
        ∙ quad-set-word one (place_at s k j) (order_at s d n) stamp (place-off s k j (order_at s d n) l (off (s.e + n) (omega arith) (sides s k d)))
        ∙ quad-set-word lists (place_at s k j) (entry_at s d n) (entry_word page offset len) (place-off s k j (entry_at s d n) l (off n (omega arith) (sides s k d)))
      where
        other : Apart s k d → place_at s k j ≢ place_at s d place
        other (inl p) = λ e. o p.0 (omega (arith, p.1))
        other (inr p) = far p.1
          where
            far : (dict_at s k + 3 * s.e ≤ dict_at s d) ⊎ (dict_at s d + 3 * s.e ≤ dict_at s k) → place_at s k j ≢ place_at s d place
            far (inl h) = omega arith
            far (inr h) = omega arith

        off : (y : ℕ) → y < 2 * s.e → Apart s k d → (dict_at s d + y < dict_at s k + 2 * s.e) ⊎ (dict_at s k + 3 * s.e ≤ dict_at s d + y)
        off y g (inl p) = inl (omega (arith, p.1))
        off y g (inr p) = far p.1
          where
            far : (dict_at s k + 3 * s.e ≤ dict_at s d) ⊎ (dict_at s d + 3 * s.e ≤ dict_at s k) → (dict_at s d + y < dict_at s k + 2 * s.e) ⊎ (dict_at s k + 3 * s.e ≤ dict_at s d + y)
            far (inl h) = inr (omega arith)
            far (inr h) = inl (omega arith)

    pub words-written : entry_word page offset len < 2 ^ 64 → stamp < 2 ^ 64 → place_word n h < 2 ^ 32 → Step s lists (entry_written s lists d n page offset len stamp place h) d n page offset len stamp place h
    unfolding entry_written one two three
    words-written we ws wq =
        let b = dict-from s d in
        let e : word_at two (entry_at s d n) ≡ entry_word page offset len =
        word-set-other one (order_at s d n) (entry_at s d n) stamp (omega arith) ∙ word-set-same lists (entry_at s d n) (entry_word page offset len) (omega (arith, inside)) we in
        let t : word_at two (order_at s d n) ≡ stamp = word-set-same one (order_at s d n) stamp (simp length-set_word (omega (arith, inside))) ws in
        record {
          entry =
              word-set-other three (count_at d) (entry_at s d n) (n + 1) (omega arith)
              ∙ word-set-quad two (entry_at s d n) (place_at s d place) (place_word n h) (word-off s d place (entry_at s d n) pl (inl (omega arith)))
              ∙ e;
          order =
              word-set-other three (count_at d) (order_at s d n) (n + 1) (omega arith)
              ∙ word-set-quad two (order_at s d n) (place_at s d place) (place_word n h) (word-off s d place (order_at s d n) pl (inl (omega arith)))
              ∙ t;
          named =
              quad-set-word three (place_at s d place) (count_at d) (n + 1) (place-off s d place (count_at d) pl (inl (omega arith)))
              ∙ quad-set-same two (place_at s d place) (place_word n h) (simp length-set_word (omega (arith, inside))) wq;
          counted = word-set-same three (count_at d) (n + 1) (simp (length-set_word, length-set_quad) (omega (arith, list-bytes s))) (omega (arith, r.e));
          entries = λ k i kl il o. word_kept (entry_at s k i) (off-dict s d n k i nl dl (omega arith) (λ q. (o q, omega arith)));
          orders = λ k i kl il o. word_kept (order_at s k i) (off-dict s d n k (s.e + i) nl dl (omega arith) (λ q. let z = o q in (omega arith, omega arith)));
          places = λ k j kl jl o. place_kept k j jl o;
          counts = λ k kl q. word_kept (count_at k) (off-below s d n (count_at k) (omega arith) (omega arith));
        }

    -- The pages' words are as they were.
    pub tables-kept : SameTables s (word_at lists) (word_at (entry_written s lists d n page offset len stamp place h))
    tables-kept =
        record {
          lowest = word_kept untaken_at (off-below s d n untaken_at (omega arith) (omega arith));
          current = λ k l. word_kept (current_at k) (off-below s d n (current_at k) (omega arith) (omega arith));
          count = λ k l. word_kept (taken_at k) (off-below s d n (taken_at k) (omega arith) (omega arith));
          pages = λ i l. word_kept (page_at i) (off-below s d n (page_at i) (omega arith) (omega arith));
        }
