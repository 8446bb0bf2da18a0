-- The probe loop's invariant: the places passed are filled, and none names an entry that is the key. The inner loop's: the bytes passed are equal.
use Rattle.std.proofs.Common.{ℕ, ◌-◌, ◌≤◌, ◌<◌, ◌≡◌, length, get_or}
use Rattle.words.specs.Words.{word_at, quad_at}
use Rattle.fnv.specs.Fnv.{fnv_of}
use Rattle.parts.specs.Parts.{part_bytes}
use Rattle.layout.specs.Fields.{entry_at, place_at}
use Rattle.layout.specs.Numbers.{dictionary_number}
use Rattle.bytes_key.specs.Keys.{Agree}
use Rattle.bytes_key.specs.KeyBytes.{bytes_in}
use Rattle.bytes_index.specs.Place.{place_after}
use Rattle.bytes_index.proofs.Index.{PlacePassed}
use Rattle.bytes_index.proofs.bytes_to_id.Given as goal

abbrev pub invariant-loop-left : goal.invariant-loop-left
invariant-loop-left l = record {
  within : l.left ≤ l.rest.len;
  equal : Agree l.stored (length l.stored) (part_bytes l.rest.part) l.left l.rest.len;
}

abbrev pub decreases-loop-left : goal.decreases-loop-left
decreases-loop-left l = l.left

abbrev pub invariant-probe : goal.invariant-probe
invariant-probe l = record {
  steps : l.t ≤ l.m;
  place : l.j < l.m;
  here : place_after l.m (fnv_of (bytes_in l.fn.key)) l.t ≡ l.j;
  passed : (k : ℕ) → k < l.t → PlacePassed l.lists.layout.sizes (λ a. get_or l.fn.memory.pages.now a 0) (λ i. word_at l.lists.bytes.now (entry_at l.lists.layout.sizes (dictionary_number l.d) i)) (bytes_in l.fn.key)
      (quad_at l.lists.bytes.now (place_at l.lists.layout.sizes (dictionary_number l.d) (place_after l.m (fnv_of (bytes_in l.fn.key)) k)));
}

abbrev pub decreases-probe : goal.decreases-probe
decreases-probe l = l.m - l.t
