-- What must hold before an insert. Assumes nothing.
use Rattle.std.specs.Prelude.{ℕ, ◌+◌, ◌^◌, ◌≤◌, ◌<◌, ◌≡◌, length, Ok}
use Rattle.slices.specs.Bytes.{Bytes}
use Rattle.words.specs.Words.{word_at}
use Rattle.layout.specs.declared.Sizes.{Sizes}
use Rattle.layout.specs.Sizes.{dictionaries, page_size}
use Rattle.layout.specs.Fields.{untaken_at}
use Rattle.bytes_index.specs.Search.{Searched}
use Rattle.bytes_index.specs.declared.Probe.TheVariants.{Free}
use Rattle.bytes_buffer.specs.declared.Spot.{Spot}
use Rattle.bytes_buffer.specs.Spots.{spot_in}
use Rattle.bytes_dictionary.specs.Store.{Store}

-- The search for the key ended at a free place, there is room for one entry more, the plan has a spot, and the
-- stamp is later than the last one.
pub record Ready (s : Sizes) (st : Store) (pages lists : Bytes) (d place : ℕ) (spot : Spot) (stamp : ℕ) (key : Bytes) : Type 0 where
  pub known : d < dictionaries
  pub searched : Searched s d pages lists key (Ok (Free place))
  pub room : st.count d < s.e
  pub short : length key ≤ page_size s
  pub planned : spot_in s (word_at lists) d (word_at lists untaken_at) (length key) ≡ Ok spot
  pub stamp-fits : stamp < 2 ^ 64
  -- the stamp is above that of the dictionary's last entry
  pub later : (i : ℕ) → i + 1 ≡ st.count d → st.stamp d i < stamp
