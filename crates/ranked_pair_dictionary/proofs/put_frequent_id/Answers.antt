-- `ranked_pair_dictionary::put_frequent_id` meets its contract: the bytes that were stored from the last to the first are the form.
use Rattle.std.proofs.Common.{ℕ, suc, ◌≡◌, ◌+◌, ◌*◌, ◌-◌, ◌/◌, ◌%◌, ◌^◌, ◌<◌, ◌≤◌, [], ◌∷◌, ◌++◌, length, drop, refl, sym, ap, ◌∙◌, arith}
use native.Mathlib.Nat.{div-div-eq-div-mul, pow-suc}
use native.Mathlib.Numerals.{add-one}
use lib.ListN.{set}
use lib.Seq.{sets, sets-eq, set_comm}
use Rattle.slices.specs.Bytes.{Bytes}
use Rattle.ranked_pair_dictionary.specs.FrequentId.{be, frequent_id, further_bytes, fid}
use Rattle.ranked_pair_dictionary.proofs.Laws.{top, length-frequent_id, length-fid, fid-holds}
use Rattle.ranked_pair_dictionary.proofs.put_frequent_id.Goals as goal

-- A store below a run of stores, done after them or before.
set-sets : (vs l : Bytes) (j i a : ℕ) → i < j → set (sets l j vs) i a ≡ sets (set l i a) j vs
set-sets [] l j i a h = refl
set-sets (b ∷ vs) l j i a h =
    set-sets vs (set l j b) (suc j) i a (omega arith) ∙ ap (λ (x : Bytes). sets x (suc j) vs) (set_comm l j i b a (omega arith))

-- One byte more, in front of those that stand.
more : (b now : Bytes) (n d v high : ℕ) → d < n → high ≡ v / 256 ^ d → now ≡ sets b (n - d + 1) (be d v)
    → set now (n - d) (high % 256) ≡ sets b (n - (d + 1) + 1) (be (d + 1) v)
more b now n d v high l h e =
    let i : n - (d + 1) + 1 ≡ n - d = omega arith in
    rw (e, h, i, add-one d, add-one (n - d)) (set-sets (be d v) b (suc (n - d)) (n - d) (v / 256 ^ d % 256) (omega arith))

less : (v d high : ℕ) → high ≡ v / 256 ^ d → high / 256 ≡ v / 256 ^ (d + 1)
less v d high h = rw (h, add-one d, pow-suc) (div-div-eq-div-mul v (256 ^ d) 256)

small : (v n d high : ℕ) → d ≡ n → n ≡ further_bytes v → v < 2 ^ 30 → high ≡ v / 256 ^ d → high < 64
small v n d high p q l h = rw (h, p, q) (top (further_bytes v) v (fid-holds v l))

-- The first byte, in front of all further ones.
whole : (b : Bytes) (n v : ℕ) → n < length b
    → set (sets b 1 (be n v)) 0 (64 * n + v / 256 ^ n) ≡ frequent_id n v ++ drop (n + 1) b
unfolding frequent_id
whole b n v l =
    let k : 0 + length (frequent_id n v) ≡ n + 1 = omega (arith, length-frequent_id n v) in
    set-sets (be n v) b 1 0 (64 * n + v / 256 ^ n) (omega arith)
    ∙ sets-eq (frequent_id n v) b 0 (omega arith)
    ∙ ap (λ (m : ℕ). frequent_id n v ++ drop m b) k

fid-written : (b now : Bytes) (n d v high : ℕ) → d ≡ n → n ≡ further_bytes v → n < length b → high ≡ v / 256 ^ d
    → now ≡ sets b (n - d + 1) (be d v) → (n + 1 ≡ length (fid v)) × (set now 0 (64 * n + high) ≡ fid v ++ drop (length (fid v)) b)
unfolding fid
fid-written b now n d v high p q r h e =
    let k : length (fid v) ≡ n + 1 = length-fid v ∙ ap (λ (m : ℕ). m + 1) (sym q) in
    let i : n - d + 1 ≡ 1 = omega arith in
    let f : fid v ≡ frequent_id n v = ap (λ (m : ℕ). frequent_id m v) (sym q) in
    (sym k, rw (k, e, h, i, p, f) (whole b n v r))

-- The form has one byte more than it has further ones, so they fit.
fits : (v n : ℕ) (b : Bytes) → n ≡ further_bytes v → length (fid v) ≤ length b → n < length b
fits v n b p q = omega (arith, length-fid v)

pub bounds-buffer-further : goal.bounds-buffer-further
bounds-buffer-further c =
    omega (arith, fits c.args.value _ c.args.buffer.now c.further_bytes-further.ensures.0 c.requires.1)

pub loop-done-preserved : goal.loop-done-preserved
loop-done-preserved c =
    let a = c.args in
    let l = c.loop-done in
    let n = c.further_bytes-further.result in
    record {
      left = less a.value l.done l.high l.invariant.left;
      stands = more a.buffer.now l.buffer n l.done a.value l.high c.loop-done-test.true l.invariant.left l.invariant.stands;
    }

pub overflow_cast-buffer-2 : goal.overflow_cast-buffer-2
overflow_cast-buffer-2 c =
    let f = c.further_bytes-further in
    let l = c.loop-done in
    omega (arith, small c.args.value f.result l.done l.high (omega arith) f.ensures.0 c.requires.0 l.invariant.left)

pub bounds-buffer-0 : goal.bounds-buffer-0
bounds-buffer-0 c =
    omega (arith, fits c.args.value _ c.args.buffer.now c.further_bytes-further.ensures.0 c.requires.1)

pub returns : goal.returns
returns c =
    let a = c.args in
    let l = c.loop-done in
    let f = c.further_bytes-further in
    fid-written a.buffer.now l.buffer f.result l.done a.value l.high (omega arith) f.ensures.0
    (fits a.value f.result a.buffer.now f.ensures.0 c.requires.1)
    l.invariant.left
    l.invariant.stands
