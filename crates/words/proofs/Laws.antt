-- Reading after writing, at the same index and at another: shown once over the width n, then for words and quads. Assumes nothing.
use mathlib.Core.Path.{◌≡◌, refl, ◌∙◌, ap}
use mathlib.Core.Logic.{◌≢◌}
use Prim.Native.Nat.{ℕ, zero, suc, ◌+◌, ◌*◌, ◌/◌, ◌%◌, ◌^◌, ◌≤◌, ◌<◌}
use native.Mathlib.Omega.{arith}
use native.Mathlib.Nat.{add-zero, pow-suc}
use native.Mathlib.Numerals.{towards_suc}
use lib.ListN.{length, get_or, take, set, length-set}
use lib.Seq.{sets, length-sets, get_or-set_same}
use Rattle.std.proofs.Common.{rules, ◌∷◌}
use Rattle.std.specs.Int.{w64, from_le_bytes, to_le_bytes}
use Rattle.slices.specs.Bytes.{Bytes}
use Rattle.slices.proofs.Sets.{Outside, get_d-sets-out}
use Rattle.words.specs.Words.{le, le_at, number_at, set_number, word_at, set_word, quad_at, set_quad}

-- ---- any width

pub length-le : (n x : ℕ) → length (le n x) ≡ n
unfolding le
length-le zero x = refl
length-le (suc n) x = ap suc (length-le n (x / 256))

-- Bytes that are all 0.
pub le-zero : (n : ℕ) (s : Bytes) (b : ℕ) → ((k : ℕ) → k < n → get_or s (b + k) 0 ≡ 0) → le_at n s b ≡ 0
unfolding le_at
le-zero zero s b at = refl
le-zero (suc n) s b at =
    let e : get_or s b 0 ≡ 0 = simp add-zero at (at 0 (omega arith)) in
    let ih : le_at n s (suc b) ≡ 0 =
    le-zero n s (suc b) (λ k h. let p : suc b + k ≡ b + suc k = omega arith in rw p (at (suc k) (omega arith))) in
    omega arith

-- If n bytes agree, and the bytes after them up to the mth are 0, the m bytes hold the number of the n.
pub le-short : (n m : ℕ) (s t : Bytes) (b c : ℕ) → n ≤ m → ((k : ℕ) → k < n → get_or s (b + k) 0 ≡ get_or t (c + k) 0)
    → ((k : ℕ) → n ≤ k → k < m → get_or s (b + k) 0 ≡ 0) → le_at m s b ≡ le_at n t c
unfolding le_at
le-short zero m s t b c f at z = le-zero m s b (λ k h. z k (omega arith) h)
le-short (suc n) zero s t b c f at z = absurd (omega arith)
le-short (suc n) (suc m) s t b c f at z =
    let e : get_or s b 0 ≡ get_or t c 0 = simp add-zero at (at 0 (omega arith)) in
    let ih : le_at m s (suc b) ≡ le_at n t (suc c) =
    le-short n m s t (suc b) (suc c) (omega arith)
    (λ k h. let p : suc b + k ≡ b + suc k = omega arith in let q : suc c + k ≡ c + suc k = omega arith in rw (p, q) (at (suc k) (omega arith)))
    (λ k g h. let p : suc b + k ≡ b + suc k = omega arith in rw p (z (suc k) (omega arith) (omega arith))) in
    cc

-- Two places whose n bytes agree hold the same number.
pub le-agree : (n : ℕ) (s t : Bytes) (b c : ℕ) → ((k : ℕ) → k < n → get_or s (b + k) 0 ≡ get_or t (c + k) 0) → le_at n s b ≡ le_at n t c
le-agree n s t b c at = le-short n n s t b c (omega arith) at (λ k g h. absurd (omega arith))

-- And the other way round: one number, the same bytes.
pub le_same : (n : ℕ) (s t : Bytes) (b c : ℕ) → ((k : ℕ) → get_or s k 0 < 256) → ((k : ℕ) → get_or t k 0 < 256)
    → le_at n s b ≡ le_at n t c → (k : ℕ) → k < n → get_or s (b + k) 0 ≡ get_or t (c + k) 0
unfolding le_at
le_same zero s t b c hs ht e k l = absurd (omega arith)
le_same (suc n) s t b c hs ht e zero l =
    let p = hs b in
    let q = ht c in
    simp add-zero (omega arith)
le_same (suc n) s t b c hs ht e (suc k) l =
    let p = hs b in
    let q = ht c in
    let f : le_at n s (suc b) ≡ le_at n t (suc c) = omega arith in
    let u : b + suc k ≡ suc b + k = omega arith in
    let v : c + suc k ≡ suc c + k = omega arith in
    rw (u, v) (le_same n s t (suc b) (suc c) hs ht f k (omega arith))

high : (n x : ℕ) → x < 256 ^ suc n → x / 256 < 256 ^ n
high n x h =
    let m : ℕ = 256 ^ n in
    let p : 256 ^ suc n ≡ m * 256 = pow-suc 256 n in
    let q : x < m * 256 = rw p at h in
    omega arith

pub le-put-same : (n : ℕ) (s : Bytes) (b x : ℕ) → b + n ≤ length s → x < 256 ^ n → le_at n (sets s b (le n x)) b ≡ x
unfolding le le_at
le-put-same zero s b x f h = let z : x < 1 = h in omega arith
le-put-same (suc n) s b x f h =
    let e : get_or (sets (set s b (x % 256)) (suc b) (le n (x / 256))) b 0 ≡ x % 256 =
    get_d-sets-out (le n (x / 256)) (set s b (x % 256)) (suc b) b (λ d g. omega arith) ∙ get_or-set_same s b (x % 256) 0 (omega arith) in
    let ih : le_at n (sets (set s b (x % 256)) (suc b) (le n (x / 256))) (suc b) ≡ x / 256 =
    le-put-same n (set s b (x % 256)) (suc b) (x / 256) (simp length-set (omega arith)) (high n x h) in
    omega arith

-- What a write of n bytes leaves, seen at a run of m bytes apart from it.
pub le-put-other : (m n : ℕ) (s : Bytes) (b c x : ℕ) → ((k : ℕ) → k < m → Outside b n (c + k)) → le_at m (sets s b (le n x)) c ≡ le_at m s c
le-put-other m n s b c x o =
    le-agree m (sets s b (le n x)) s c c (λ k h. get_d-sets-out (le n x) s b (c + k) (λ d g. o k h d (let p : length (le n x) ≡ n = length-le n x in omega arith)))

-- A run of m bytes holds a number of m bytes.
pub le-lt : (m : ℕ) (s : Bytes) (b : ℕ) → ((k : ℕ) → get_or s k 0 < 256) → le_at m s b < 256 ^ m
unfolding le_at
le-lt zero s b h = omega arith
le-lt (suc m) s b h =
    let q : ℕ = 256 ^ m in
    let p : 256 ^ suc m ≡ q * 256 = pow-suc 256 m in
    let e : get_or s b 0 < 256 = h b in
    let ih : le_at m s (suc b) < q = le-lt m s (suc b) h in
    rw p (omega arith)

pub length-set_number : (n : ℕ) (s : Bytes) (i x : ℕ) → length (set_number n s i x) ≡ length s
unfolding set_number
length-set_number n s i x = length-sets s (n * i) (le n x)

-- A byte outside the n.
pub get_d-set_number : (n : ℕ) (s : Bytes) (i x k : ℕ) → Outside (n * i) n k → get_or (set_number n s i x) k 0 ≡ get_or s k 0
unfolding set_number
get_d-set_number n s i x k o =
    get_d-sets-out (le n x) s (n * i) k (λ d g. o d (let p : length (le n x) ≡ n = length-le n x in omega arith))

-- ---- words

pub length-set_word : (s : Bytes) (i x : ℕ) → length (set_word s i x) ≡ length s
length-set_word s i x = length-set_number 8 s i x

-- A byte outside the eight.
pub get_d-set_word : (s : Bytes) (i x k : ℕ) → Outside (8 * i) 8 k → get_or (set_word s i x) k 0 ≡ get_or s k 0
get_d-set_word s i x k o = get_d-set_number 8 s i x k o

pub word-set-same : (s : Bytes) (i x : ℕ) → 8 * i + 8 ≤ length s → x < 2 ^ 64 → word_at (set_word s i x) i ≡ x
unfolding number_at set_number
word-set-same s i x f h = le-put-same 8 s (8 * i) x f h

pub word-set-other : (s : Bytes) (i j x : ℕ) → j ≢ i → word_at (set_word s i x) j ≡ word_at s j
unfolding number_at set_number
word-set-other s i j x o = le-put-other 8 8 s (8 * i) (8 * j) x (λ k h d g. omega arith)

-- A word whose bytes agree in two lists.
pub word-agree : (s t : Bytes) (i : ℕ) → ((k : ℕ) → k < 8 → get_or s (8 * i + k) 0 ≡ get_or t (8 * i + k) 0) → word_at s i ≡ word_at t i
unfolding number_at
word-agree s t i at = le-agree 8 s t (8 * i) (8 * i) at

pub word-zero : (s : Bytes) (i : ℕ) → ((k : ℕ) → k < 8 → get_or s (8 * i + k) 0 ≡ 0) → word_at s i ≡ 0
unfolding number_at
word-zero s i at = le-zero 8 s (8 * i) at

-- ---- quads

pub length-set_quad : (s : Bytes) (i x : ℕ) → length (set_quad s i x) ≡ length s
length-set_quad s i x = length-set_number 4 s i x

-- A byte outside the four.
pub get_d-set_quad : (s : Bytes) (i x k : ℕ) → Outside (4 * i) 4 k → get_or (set_quad s i x) k 0 ≡ get_or s k 0
get_d-set_quad s i x k o = get_d-set_number 4 s i x k o

pub quad-set-same : (s : Bytes) (i x : ℕ) → 4 * i + 4 ≤ length s → x < 2 ^ 32 → quad_at (set_quad s i x) i ≡ x
unfolding number_at set_number
quad-set-same s i x f h = le-put-same 4 s (4 * i) x f h

pub quad-set-other : (s : Bytes) (i j x : ℕ) → j ≢ i → quad_at (set_quad s i x) j ≡ quad_at s j
unfolding number_at set_number
quad-set-other s i j x o = le-put-other 4 4 s (4 * i) (4 * j) x (λ k h d g. omega arith)

pub quad-agree : (s t : Bytes) (i : ℕ) → ((k : ℕ) → k < 4 → get_or s (4 * i + k) 0 ≡ get_or t (4 * i + k) 0) → quad_at s i ≡ quad_at t i
unfolding number_at
quad-agree s t i at = le-agree 4 s t (4 * i) (4 * i) at

pub quad-zero : (s : Bytes) (i : ℕ) → ((k : ℕ) → k < 4 → get_or s (4 * i + k) 0 ≡ 0) → quad_at s i ≡ 0
unfolding number_at
quad-zero s i at = le-zero 4 s (4 * i) at

-- ---- words beside quads: one memory holds both, apart from one another

pub word-set-quad : (s : Bytes) (i j x : ℕ) → ((k : ℕ) → k < 8 → Outside (4 * j) 4 (8 * i + k)) → word_at (set_quad s j x) i ≡ word_at s i
unfolding number_at set_number
word-set-quad s i j x o = le-put-other 8 4 s (4 * j) (8 * i) x o

pub quad-set-word : (s : Bytes) (i j x : ℕ) → ((k : ℕ) → k < 4 → Outside (8 * j) 8 (4 * i + k)) → quad_at (set_word s j x) i ≡ quad_at s i
unfolding number_at set_number
quad-set-word s i j x o = le-put-other 4 8 s (8 * j) (4 * i) x o

-- ---- the sums of bytes

pub eight-bytes : (s : Bytes) (b : ℕ)
    → le_at 8 s b ≡ get_or s b 0 + get_or s (b + 1) 0 * 256 + get_or s (b + 2) 0 * 65536 + get_or s (b + 3) 0 * 16777216
    + get_or s (b + 4) 0 * 4294967296
    + get_or s (b + 5) 0 * 1099511627776
    + get_or s (b + 6) 0 * 281474976710656
    + get_or s (b + 7) 0 * 72057594037927936
unfolding le_at
eight-bytes s b = simp towards_suc (omega arith)

pub four_bytes : (s : Bytes) (b : ℕ)
    → le_at 4 s b ≡ get_or s b 0 + get_or s (b + 1) 0 * 256 + get_or s (b + 2) 0 * 65536 + get_or s (b + 3) 0 * 16777216
unfolding le_at
four_bytes s b = simp towards_suc (omega arith)

-- ---- the eight bytes that std reads and writes

pub read-eight : (s : Bytes) → from_le_bytes w64 s ≡ le_at 8 s 0
read-eight s = omega (arith, eight-bytes s 0)

pub written-eight : (x : ℕ) → to_le_bytes w64 x ≡ le 8 x
unfolding le
written-eight x = search (arith, rules)

-- The low n bytes of a number begin its bytes.
pub take-le : (n m x : ℕ) → n ≤ m → take n (le m x) ≡ le n x
unfolding le
take-le zero m x h = refl
take-le (suc n) zero x h = absurd (omega arith)
take-le (suc n) (suc m) x h = ap (λ (r : Bytes). x % 256 ∷ r) (take-le n m (x / 256) (omega arith))
