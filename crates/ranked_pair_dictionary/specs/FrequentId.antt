-- The frequent id, which stands for the number of a head: its form, its writing and its reading. Assumes nothing.
use Rattle.std.specs.Prelude.{ℕ, zero, suc, ◌+◌, ◌*◌, ◌/◌, ◌%◌, ◌^◌, cond, [], ◌∷◌, leb, ltb, length, take, Result, Ok, Err}
use Rattle.std.proofs.Math.Option.{Option, none, some}
use Rattle.slices.specs.Bytes.{Bytes}
use Rattle.refusals.specs.declared.Refusal.{Refusal}
use Rattle.refusals.specs.declared.Refusal.TheVariants.{ShortBuffer, HighNumber, CutForm}
use Rattle.refusals.specs.Written.{written_by, placed_by}
use Rattle.ranked_pair_dictionary.specs.declared.FrequentId.{FrequentId}

-- The low n bytes of x, big endian.
abbrev pub be : ℕ → ℕ → Bytes
be zero x = []
be (suc n) x = x / 256 ^ n % 256 ∷ be n x

-- The number v with further bytes behind it, big endian.
abbrev pub of_be : ℕ → Bytes → ℕ
of_be v [] = v
of_be v (b ∷ s) = of_be (v * 256 + b) s

-- f with n further bytes: the two top bits of the first byte are n.
unfoldable pub frequent_id : ℕ → ℕ → Bytes
frequent_id n f = (64 * n + f / 256 ^ n) ∷ be n f

-- The fewest further bytes that can hold f.
unfoldable pub further_bytes : ℕ → ℕ
further_bytes f = cond (ltb f (2 ^ 6)) 0 (cond (ltb f (2 ^ 14)) 1 (cond (ltb f (2 ^ 22)) 2 3))

-- Document 01: a lead.
unfoldable pub fid : ℕ → Bytes
fid f = frequent_id (further_bytes f) f

-- ---- writing, into a buffer of `room` bytes

-- A value of 2^30 or more has no form. A form must fit the buffer.
unfoldable pub write_refusal : ℕ → ℕ → Option Refusal
write_refusal value room = cond (leb (2 ^ 30) value) (some HighNumber) (cond (ltb room (length (fid value))) (some ShortBuffer) none)

-- The length written, or the refusal.
unfoldable pub write_fid_answer : ℕ → ℕ → Result ℕ Refusal
write_fid_answer value room = written_by (fid value) (write_refusal value room)

-- The form at the buffer's start, the rest untouched. If the writing is refused, all bytes are as found.
unfoldable pub write_fid_buffer : ℕ → Bytes → Bytes
write_fid_buffer value buffer = placed_by (fid value) buffer (write_refusal value (length buffer))

-- ---- reading, from the front

-- The value v, read from n bytes.
abbrev pub read_as : ℕ → ℕ → Result FrequentId Refusal
read_as v n = Ok (record { value = v; length = n })

-- Reads n further bytes from s; v is the value in the first byte. Cut if s has fewer than n.
unfoldable pub read_further : ℕ → ℕ → Bytes → Result FrequentId Refusal
read_further n v s = cond (leb n (length s)) (read_as (of_be v (take n s)) (n + 1)) (Err CutForm)

-- The value and the length; what follows is not looked at.
unfoldable pub read_fid_answer : Bytes → Result FrequentId Refusal
read_fid_answer [] = Err CutForm
read_fid_answer (b ∷ s) = read_further (b / 64) (b % 64) s
