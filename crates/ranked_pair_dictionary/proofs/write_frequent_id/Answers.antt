-- `ranked_pair_dictionary::write_frequent_id` meets its contract: refused with the buffer as found, or the form is put at its start.
use Rattle.std.proofs.Common.{ℕ, ◌≡◌, ◌++◌, length, drop, Ok, Err, arith}
use Rattle.std.proofs.Math.Option.{none, some}
use Rattle.slices.specs.Bytes.{Bytes}
use Rattle.refusals.specs.declared.Refusal.{Refusal}
use Rattle.refusals.specs.declared.Refusal.TheVariants.{ShortBuffer}
use Rattle.ranked_pair_dictionary.specs.FrequentId.{fid, write_refusal, write_fid_answer, write_fid_buffer}
use Rattle.ranked_pair_dictionary.proofs.Laws.{length-fid, write-short, write_done}
use Rattle.ranked_pair_dictionary.proofs.write_frequent_id.Goals as goal

refused : (v : ℕ) (b : Bytes) (why : Refusal) → write_refusal v (length b) ≡ some why
    → (Err why ≡ write_fid_answer v (length b)) × (b ≡ write_fid_buffer v b)
unfolding write_fid_answer write_fid_buffer
refused v b why e = (rw e, rw e)

written : (v : ℕ) (b now : Bytes) (n : ℕ) → write_refusal v (length b) ≡ none → n ≡ length (fid v) → now ≡ fid v ++ drop (length (fid v)) b
    → (Ok n ≡ write_fid_answer v (length b)) × (now ≡ write_fid_buffer v b)
unfolding write_fid_answer write_fid_buffer
written v b now n e p q = (rw (e, p), rw e q)

pub returns-then-buffer-further_bytes : goal.returns-then-buffer-further_bytes
returns-then-buffer-further_bytes c =
    let a = c.args in
    refused a.value a.buffer.now ShortBuffer (write-short a.value (length a.buffer.now) (omega arith) (omega arith))

pub put_frequent_id-requires : goal.put_frequent_id-requires
put_frequent_id-requires c = (omega arith, omega (arith, length-fid c.args.value))

pub returns : goal.returns
returns c =
    let a = c.args in
    let p = c.put_frequent_id.ensures in
    written a.value a.buffer.now _ _ (write_done a.value (length a.buffer.now) (omega arith) (omega arith)) p.0 p.1
