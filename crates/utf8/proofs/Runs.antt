-- Whole characters of two or three bytes, if their first byte allows all tail bytes. Passing whole characters changes nothing. Assumes nothing.
use Prim.Native.Nat.{ℕ, zero, suc, ◌+◌, ◌-◌, ◌≤◌, ◌<◌}
use mathlib.Core.Path.{◌≡◌, refl, sym, ap, subst, ◌∙◌}
use mathlib.Core.Bool.{Bool, true, false, ◌&&◌}
use mathlib.Core.List.{[], ◌∷◌, ◌++◌}
use native.Mathlib.Omega.{arith}
use lib.Dec.{ltb}
use lib.ListN.{length, get_or, take, drop, take-append-drop, length-drop}
use lib.Seq.{take_all, drop-cons}
use Rattle.std.proofs.lemmas.List.{drop-drop}
use Rattle.std.specs.Array.{IsFirstChunk}
use Rattle.std.specs.Prelude.{All}
use borrow.Author.Tests.{ne_eqb, ltb-true}
use Rattle.slices.specs.Bytes.{Bytes}
use Rattle.slices.proofs.Tests.{and_left, and_right}
use Rattle.utf8_char.specs.Grammar.{In, Tail}
use Rattle.utf8_char.specs.Text.{Step, awaiting, within, char_start, first_of, after, text_from}
use Rattle.utf8.specs.Passing.{ascii, IsChar, Characters, Passed}
use Rattle.utf8_char.proofs.Bounds.{inside, bounds, first_one, first_two, first-e1-ec}

-- ASCII bytes are characters by themselves.
pub ascii-characters : (c : Bytes) → ascii c ≡ true → Characters c
ascii-characters [] e rest = refl
ascii-characters (b ∷ c) e rest =
    let h = ltb-true b 0x80 (and_left (ltb b 0x80) (ascii c) e) in
    ap (λ (x : Step). text_from x (c ++ rest)) (first_one b (omega arith))
    ∙ ascii-characters c (and_right (ltb b 0x80) (ascii c) e) rest

-- As many tail bytes as are due.
tails : (c rest : Bytes) → All Tail c → text_from (awaiting (length c) 0x80 0xBF) (c ++ rest) ≡ text_from char_start rest
tails [] rest a = refl
tails (b ∷ c) rest a =
    let m : suc (length c) - 1 ≡ length c = omega arith in
    let p : after (awaiting (suc (length c)) 0x80 0xBF) b ≡ awaiting (length c) 0x80 0xBF =
    rw (ne_eqb (suc (length c)) 0 (omega arith), inside 0x80 0xBF b (a 0 0 (omega arith)), m) in
    ap (λ (x : Step). text_from x (c ++ rest)) p ∙ tails c rest (λ k d h. a (suc k) d (omega arith))

-- First bytes from lo to hi after which all the other bytes of c are due.
pub char-characters : (lo hi : ℕ) (c : Bytes) → ((b : ℕ) → In lo hi b → first_of b ≡ awaiting (length c - 1) 0x80 0xBF)
    → IsChar lo hi c → Characters c
char-characters lo hi [] f e = absurd e
char-characters lo hi (b ∷ c) f e = λ rest.
    let m : suc (length c) - 1 ≡ length c = omega arith in
    ap (λ (x : Step). text_from x (c ++ rest)) (rw m at (f b e.0)) ∙ tails c rest e.1

-- The next n bytes stand at k.
pub chunk-at : (n : ℕ) (s bytes : Bytes) (k : ℕ) → k ≤ length s → IsFirstChunk (take (length s - k) (drop k s)) bytes n
    → (k + n ≤ length s) × (bytes ≡ take n (drop k s))
chunk-at n s bytes k p c =
    let w : take (length s - k) (drop k s) ≡ drop k s = take_all (length s - k) (drop k s) (omega (arith, length-drop k s)) in
    let l : n ≤ length (drop k s) = rw w at c.enough in
    (omega (arith, p, length-drop k s), rw w at c.same)

-- The next n bytes are whole characters.
pub pass-chunk : (n : ℕ) (s bytes : Bytes) (i k : ℕ) → Passed s i k → IsFirstChunk (take (length s - k) (drop k s)) bytes n → Characters bytes
    → Passed s i (k + n)
pass-chunk n s bytes i k p c f =
    let h = chunk-at n s bytes k p.1 c in
    let q : bytes ++ drop (k + n) s ≡ drop k s = rw (h.1, ← drop-drop n k s) (take-append-drop n (drop k s)) in
    let e = f (drop (k + n) s) in
    (omega (arith, p.0), h.0, sym (rw q at e) ∙ p.2)

-- ---- one character of two or of three bytes

-- Whole characters that stand at i.
pass-at : (s c : Bytes) (i k : ℕ) → i ≤ k → k ≤ length s → drop i s ≡ c ++ drop k s → Characters c → Passed s i k
pass-at s c i k h l e f = (h, l, sym (ap (λ (r : Bytes). text_from char_start r) e ∙ f (drop k s)))

all_nil : All Tail []
all_nil k d h = omega (arith, h)

all_cons : (b : ℕ) (c : Bytes) → Tail b → All Tail c → All Tail (b ∷ c)
all_cons b c t a zero d h = t
all_cons b c t a (suc k) d h = a k d (omega (arith, h))

first_dropped : (s : Bytes) (j k : ℕ) → j < length s → suc j ≡ k → drop j s ≡ get_or s j 0 ∷ drop k s
first_dropped s j k h p = drop-cons s j 0 h ∙ ap (λ (n : ℕ). get_or s j 0 ∷ drop n s) p

two_bytes : (s : Bytes) (i : ℕ) → i + 2 ≤ length s → drop i s ≡ get_or s i 0 ∷ get_or s (i + 1) 0 ∷ drop (i + 2) s
two_bytes s i h =
    first_dropped s i (i + 1) (omega arith) (omega arith)
    ∙ ap (λ (r : Bytes). get_or s i 0 ∷ r) (first_dropped s (i + 1) (i + 2) (omega arith) (omega arith))

three_bytes : (s : Bytes) (i : ℕ) → i + 3 ≤ length s → drop i s ≡ get_or s i 0 ∷ get_or s (i + 1) 0 ∷ get_or s (i + 2) 0 ∷ drop (i + 3) s
three_bytes s i h =
    two_bytes s i (omega arith)
    ∙ ap (λ (r : Bytes). get_or s i 0 ∷ get_or s (i + 1) 0 ∷ r) (first_dropped s (i + 2) (i + 3) (omega arith) (omega arith))

both : (a b : Bool) → a ≡ true → b ≡ true → (a && b) ≡ true
both true b p q = q
both false b p q = p

-- A first byte from lo to hi and one tail byte meet the tests of `pass-two`, if it has the same bounds.
pub two-within : (lo hi : ℕ) (s : Bytes) (i : ℕ) → i + 2 ≤ length s → IsChar lo hi (take 2 (drop i s))
    → (within lo hi (get_or s i 0) && within 0x80 0xBF (get_or s (i + 1) 0)) ≡ true
two-within lo hi s i h e =
    let c = subst (λ (r : Bytes). IsChar lo hi (take 2 r)) (two_bytes s i h) e in
    both _ _ (inside lo hi (get_or s i 0) c.0) (inside 0x80 0xBF (get_or s (i + 1) 0) (c.1 0 0 (omega arith)))

-- A first byte from lo to hi and two tail bytes meet those of `pass-three`.
pub three-within : (lo hi : ℕ) (s : Bytes) (i : ℕ) → i + 3 ≤ length s → IsChar lo hi (take 3 (drop i s))
    → (within lo hi (get_or s i 0) && within 0x80 0xBF (get_or s (i + 1) 0) && within 0x80 0xBF (get_or s (i + 2) 0)) ≡ true
three-within lo hi s i h e =
    let c = subst (λ (r : Bytes). IsChar lo hi (take 3 r)) (three_bytes s i h) e in
    both _ _ (both _ _ (inside lo hi (get_or s i 0) c.0) (inside 0x80 0xBF (get_or s (i + 1) 0) (c.1 0 0 (omega arith))))
    (inside 0x80 0xBF (get_or s (i + 2) 0) (c.1 1 0 (omega arith)))

pub pass-two : (s : Bytes) (i : ℕ) → i + 2 ≤ length s → (within 0xC2 0xDF (get_or s i 0) && within 0x80 0xBF (get_or s (i + 1) 0)) ≡ true
    → Passed s i (i + 2)
pass-two s i h e =
    let a = get_or s i 0 in
    let b = get_or s (i + 1) 0 in
    let x = bounds 0xC2 0xDF a (and_left _ _ e) in
    let y = bounds 0x80 0xBF b (and_right _ _ e) in
    pass-at s (a ∷ b ∷ []) i (i + 2) (omega arith) h (two_bytes s i h)
    (char-characters 0xC2 0xDF (a ∷ b ∷ []) first_two (x, all_cons b [] y all_nil))

pub pass-three : (s : Bytes) (i : ℕ) → i + 3 ≤ length s
    → (within 0xE1 0xEC (get_or s i 0) && within 0x80 0xBF (get_or s (i + 1) 0) && within 0x80 0xBF (get_or s (i + 2) 0)) ≡ true
    → Passed s i (i + 3)
pass-three s i h e =
    let a = get_or s i 0 in
    let b = get_or s (i + 1) 0 in
    let c = get_or s (i + 2) 0 in
    let ab = and_left _ _ e in
    let x = bounds 0xE1 0xEC a (and_left _ _ ab) in
    let y = bounds 0x80 0xBF b (and_right _ _ ab) in
    let z = bounds 0x80 0xBF c (and_right _ _ e) in
    pass-at s (a ∷ b ∷ c ∷ []) i (i + 3) (omega arith) h (three_bytes s i h)
    (char-characters 0xE1 0xEC (a ∷ b ∷ c ∷ []) first-e1-ec (x, all_cons b (c ∷ []) y (all_cons c [] z all_nil)))
