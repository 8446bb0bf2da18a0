-- What a search in a dictionary answers. Assumes nothing.
use Rattle.std.specs.Prelude.{◌≡◌, ℕ, ◌*◌, ◌<◌, get_or, Result, Ok, Err}
use Rattle.std.proofs.Math.Option.{some}
use Rattle.slices.specs.Bytes.{Bytes}
use Rattle.words.specs.Words.{word_at, quad_at}
use Rattle.fnv.specs.Fnv.{fnv_of}
use Rattle.layout.specs.declared.Sizes.{Sizes}
use Rattle.layout.specs.Fields.{entry_at, place_at}
use Rattle.bytes_index.specs.Entries.{Entries, Addresses, Met, FreeAt, Holds, Misses}
use Rattle.bytes_index.specs.declared.Probe.{Probe}
use Rattle.bytes_index.specs.declared.Probe.TheVariants.{At, Free}
use Rattle.refusals.specs.declared.Refusal.{Refusal}
use Rattle.refusals.specs.declared.Refusal.TheVariants.{Unopened}

-- Dictionary d of a memory holds these entries.
abbrev pub HoldsEntries : Sizes → ℕ → Bytes → Bytes → Entries → Type 0
HoldsEntries s d pages lists es = Holds s (λ a. get_or pages a 0) (λ i. word_at lists (entry_at s d i)) (λ j. quad_at lists (place_at s d j)) es

-- At: the number of the key's entry. Free: the empty place where the search ended. If the dictionary holds entries, no refusal is answered.
abbrev pub Answer : Sizes → ℕ → Bytes → Entries → Bytes → Result Probe Refusal → Type 0
Answer s d lists es key (Ok (At i)) = es i ≡ some key
Answer s d lists es key (Ok (Free j)) = Misses s (λ k. quad_at lists (place_at s d k)) es key j
Answer s d lists es key (Err why) = ⊥

-- The bounds of an answer, whatever the memory holds.
abbrev pub Ranged : Sizes → Result Probe Refusal → Type 0
Ranged s (Ok (At i)) = i < s.e
Ranged s (Ok (Free j)) = j < 2 * s.e
Ranged s (Err why) = why ≡ Unopened

-- Where the search went, whatever the memory holds. "The search starts at FNV-1a of the stored bytes ... modulo 2 × E. It goes up one place,
-- wrapping to 0": over filled places, to an entry with the key's bytes, or to the first empty place. That it passed no equal entry is said by
-- `right`, of memory that holds entries.
abbrev pub Went : Sizes → ℕ → Bytes → Bytes → Bytes → Result Probe Refusal → Type 0
Went s d pages lists key (Ok (At i)) =
    Met (λ j. quad_at lists (place_at s d j)) (2 * s.e) (fnv_of key) i × Addresses s (λ a. get_or pages a 0) (word_at lists (entry_at s d i)) key
Went s d pages lists key (Ok (Free j)) = FreeAt (λ k. quad_at lists (place_at s d k)) (2 * s.e) (fnv_of key) j
Went s d pages lists key (Err why) = Unit {0}

pub record Searched (s : Sizes) (d : ℕ) (pages lists key : Bytes) (r : Result Probe Refusal) : Type 0 where
  pub range : Ranged s r
  pub went : Went s d pages lists key r
  pub right : (es : Entries) → HoldsEntries s d pages lists es → Answer s d lists es key r
