-- After initialisation `lists` has a dictionary's header and zero in every other word. The bytes beyond its end stay. Assumes nothing.
use Prim.Native.Nat.{ℕ, zero, suc, ◌+◌, ◌*◌, ◌^◌, ◌≤◌, ◌<◌}
use mathlib.Core.Path.{◌≡◌, refl, ◌∙◌}
use mathlib.Core.List.{[], ◌∷◌}
use native.Mathlib.Omega.{arith}
use lib.ListN.{length, get_or, set, replicate, length-replicate}
use lib.Seq.{sets, length-sets}
use Rattle.slices.specs.Bytes.{Bytes}
use Rattle.slices.proofs.Sets.{Outside, get_d-sets-out}
use Rattle.words.specs.Words.{word_at, set_word}
use Rattle.words.proofs.Laws.{length-set_word, get_d-set_word, word-agree, word-set-same, word-zero}
use Rattle.layout.specs.declared.Sizes.{Sizes}
use Rattle.layout.specs.Sizes.{InRange, page_bytes, list_bytes}
use Rattle.layout.specs.Fields.{format}
use Rattle.layout.proofs.Ranges.{in-range}
use Rattle.header.specs.Header.{HeaderOf}
use Rattle.header.specs.Opened.{zeroed, opened_lists}
use Rattle.header.proofs.Opening.{least}

-- ---- zeros

set-zero : (l : Bytes) (b : ℕ) → get_or (set l b 0) b 0 ≡ 0
set-zero [] b = refl
set-zero (x ∷ l) zero = refl
set-zero (x ∷ l) (suc b) = set-zero l b

-- A byte of a run of zeros, also where the run goes past the end.
zero-run : (n : ℕ) (l : Bytes) (b k : ℕ) → k < n → get_or (sets l b (replicate n 0)) (b + k) 0 ≡ 0
zero-run zero l b k h = absurd (omega arith)
zero-run (suc n) l b zero h =
    let e : b + zero ≡ b = omega arith in
    rw e (get_d-sets-out (replicate n 0) (set l b 0) (suc b) b (λ d g. omega arith) ∙ set-zero l b)
zero-run (suc n) l b (suc k) h =
    let e : b + suc k ≡ suc b + k = omega arith in
    rw e (zero-run n (set l b 0) (suc b) k (omega arith))

-- ---- words in a row

put_words : Bytes → ℕ → Bytes → Bytes
put_words l i [] = l
put_words l i (x ∷ xs) = put_words (set_word l i x) (suc i) xs

put-length : (xs l : Bytes) (i : ℕ) → length (put_words l i xs) ≡ length l
unfolding put_words
put-length [] l i = refl
put-length (x ∷ xs) l i = put-length xs (set_word l i x) (suc i) ∙ length-set_word l i x

put_byte : (xs l : Bytes) (i k : ℕ) → Outside (8 * i) (8 * length xs) k → get_or (put_words l i xs) k 0 ≡ get_or l k 0
unfolding put_words
put_byte [] l i k o = refl
put_byte (x ∷ xs) l i k o =
    put_byte xs (set_word l i x) (suc i) k (λ d h. omega (arith, o (8 + d) (omega arith)))
    ∙ get_d-set_word l i x k (λ d h. o d (omega arith))

put_word : (xs l : Bytes) (i k : ℕ) → 8 * (i + length xs) ≤ length l → k < length xs → get_or xs k 0 < 2 ^ 64
    → word_at (put_words l i xs) (i + k) ≡ get_or xs k 0
unfolding put_words
put_word [] l i k f h m = absurd (omega arith)
put_word (x ∷ xs) l i zero f h m =
    let e : i + zero ≡ i = omega arith in
    rw e
    (word-agree (put_words (set_word l i x) (suc i) xs) (set_word l i x) i (λ d g. put_byte xs (set_word l i x) (suc i) (8 * i + d) (λ j q. omega arith))
    ∙ word-set-same l i x (omega arith) m)
put_word (x ∷ xs) l i (suc k) f h m =
    let e : i + suc k ≡ suc i + k = omega arith in
    rw e (put_word xs (set_word l i x) (suc i) k (rw length-set_word (omega arith)) (omega arith) m)

-- ---- the lists

-- The six words of the header.
abbrev header : Sizes → Bytes
header s = format ∷ s.p ∷ s.n ∷ s.e ∷ s.w ∷ s.b ∷ []

put_all : (s : Sizes) (lists : Bytes) → opened_lists s lists ≡ put_words (zeroed s lists) 0 (header s)
unfolding opened_lists put_words
put_all s lists = refl

pub opened-length : (s : Sizes) (lists : Bytes) → length (opened_lists s lists) ≡ length lists
opened-length s lists =
    rw (put_all, put-length) (length-sets lists 0 (replicate (list_bytes s) 0))

-- The header takes 48 bytes.
behind : (s : Sizes) (lists : Bytes) (k : ℕ) → 48 ≤ k → get_or (opened_lists s lists) k 0 ≡ get_or (zeroed s lists) k 0
behind s lists k h = rw put_all (put_byte (header s) (zeroed s lists) 0 k (λ d g. omega arith))

zero-byte : (s : Sizes) (lists : Bytes) (k : ℕ) → 48 ≤ k → k < list_bytes s → get_or (opened_lists s lists) k 0 ≡ 0
zero-byte s lists k h l =
    let e : 0 + k ≡ k = omega arith in
    behind s lists k h ∙ rw e at (zero-run (list_bytes s) lists 0 k l)

pub opened-beyond : (s : Sizes) (lists : Bytes) (k : ℕ) → list_bytes s ≤ k → get_or (opened_lists s lists) k 0 ≡ get_or lists k 0
opened-beyond s lists k h =
    behind s lists k (omega (arith, least s))
    ∙ get_d-sets-out (replicate (list_bytes s) 0) lists 0 k (λ d g. let e : length {A = ℕ} (replicate (list_bytes s) 0) ≡ list_bytes s = length-replicate (list_bytes s) 0 in omega arith)

pub opened-zero : (s : Sizes) (lists : Bytes) (i : ℕ) → 6 ≤ i → 8 * i + 8 ≤ list_bytes s → word_at (opened_lists s lists) i ≡ 0
opened-zero s lists i h l = word-zero (opened_lists s lists) i (λ k g. zero-byte s lists (8 * i + k) (omega arith) (omega arith))

word : (s : Sizes) (lists : Bytes) (k : ℕ) → list_bytes s ≤ length lists → k < 6 → get_or (header s) k 0 < 2 ^ 64
    → word_at (opened_lists s lists) k ≡ get_or (header s) k 0
word s lists k f h m =
    let e : 0 + k ≡ k = omega arith in
    let g : length (zeroed s lists) ≡ length lists = length-sets lists 0 (replicate (list_bytes s) 0) in
    rw put_all (rw e at (put_word (header s) (zeroed s lists) 0 k (omega (arith, least s)) h m))

pub opened-header : (s : Sizes) (pages : ℕ) (lists : Bytes) → InRange s → list_bytes s ≤ length lists → page_bytes s ≤ pages
    → HeaderOf s pages (opened_lists s lists)
opened-header s pages lists r f g =
    record {
      format-is = word s lists 0 f (omega arith) (omega arith);
      sizes-are = λ i. record {
        p = word s lists 1 f (omega arith) (omega arith) i;
        n = word s lists 2 f (omega arith) (omega arith) i;
        e = word s lists 3 f (omega arith) (omega arith) i;
        w = word s lists 4 f (omega arith) (omega arith) i;
        b = word s lists 5 f (omega arith) (omega arith) i;
      };
      ranged = in-range s r;
      pages-fit = g;
      lists-fit = rw opened-length f;
    }
