-- What the search for a name tells beside its end, on any memory and whatever the name's text: the hash of the key that was searched, and the lead in front of its
-- rest; or the hash of the head, whose search ended it. Assumes nothing.
use Rattle.std.specs.Prelude.{ℕ, ◌≡◌, ◌⊎◌, true, Result, Ok, Err}
use Rattle.slices.specs.Bytes.{Bytes}
use Rattle.refusals.specs.declared.Refusal.{Refusal}
use Rattle.fnv.specs.Fnv.{fnv_of}
use Rattle.layout.specs.declared.Sizes.{Sizes}
use Rattle.ranked_pair_dictionary.specs.FrequentId.{fid}
use Rattle.bytes_index.specs.declared.Probe.{Probe}
use Rattle.bytes_index.specs.declared.Probe.TheVariants as P
use Rattle.model.specs.Names.{Name}
use Rattle.model.specs.Kinds.{row}
use Rattle.search.specs.declared.Place.TheVariants.{Key, Head}
use Rattle.search.specs.declared.Search.{Search}
use Rattle.search.specs.declared.Search.TheVariants.{Found, Missing}
use Rattle.search.specs.declared.Sought.{Sought}
use Rattle.search.specs.Found.{key_behind, KeyEnded, HeadEnded}

-- The search for the key ended so. The answer has the key's hash, and the lead of the head's number, where the kind has heads.
pub record KeyHashed (s : Sizes) (pages lists : Bytes) (k : ℕ) (head rest : Bytes) (x : Sought) (r : Result Probe Refusal) : Type 0 where
  pub ended : KeyEnded s pages lists k head rest r
  pub lead : (row k).paired ≡ true → x.lead ≡ fid ended.f
  pub hashed : x.h ≡ fnv_of (key_behind k ended.f rest)

-- The search for the head ended so, and the key was not searched. The answer has the head's hash.
pub record HeadHashed (s : Sizes) (pages lists : Bytes) (k : ℕ) (head : Bytes) (x : Sought) (r : Result Probe Refusal) : Type 0 where
  pub ended : HeadEnded s pages lists k head r
  pub hashed : x.headhash ≡ fnv_of head

-- The search for a name of the kind k with this head and this rest.
abbrev pub HashedBy : Sizes → Bytes → Bytes → ℕ → Bytes → Bytes → Sought → Result Search Refusal → Type 0
HashedBy s pages lists k head rest x (Ok (Found i)) = KeyHashed s pages lists k head rest x (Ok (P.At i.0))
HashedBy s pages lists k head rest x (Ok (Missing (Key y))) = KeyHashed s pages lists k head rest x (Ok (P.Free y.place))
HashedBy s pages lists k head rest x (Ok (Missing (Head y))) = HeadHashed s pages lists k head x (Ok (P.Free y.place))
HashedBy s pages lists k head rest x (Err why) = HeadHashed s pages lists k head x (Err why) ⊎ KeyHashed s pages lists k head rest x (Err why)

-- The search for the name a.
abbrev pub SearchHashed : Sizes → Bytes → Bytes → Name → Sought → Type 0
SearchHashed s pages lists a x = HashedBy s pages lists a.kind ((row a.kind).head a) ((row a.kind).rest a) x x.found
