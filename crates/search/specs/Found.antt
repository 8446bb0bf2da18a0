-- Where the search for a name ended, on any memory; and what its answer says of the name's local number. Assumes nothing.
use Rattle.std.specs.Prelude.{ℕ, ◌≡◌, ◌⊎◌, true, cond, ◌++◌, Result, Ok, Err}
use Rattle.std.proofs.Math.Option.{Option, none, some}
use Rattle.slices.specs.Bytes.{Bytes}
use Rattle.fnv.specs.Fnv.{fnv_of}
use Rattle.layout.specs.declared.Sizes.{Sizes}
use Rattle.ranked_pair_dictionary.specs.FrequentId.{fid}
use Rattle.bytes_index.specs.declared.Probe.{Probe}
use Rattle.bytes_index.specs.declared.Probe.TheVariants as P
use Rattle.refusals.specs.declared.Refusal.{Refusal}
use Rattle.bytes_index.specs.Search.{Searched}
use Rattle.model.specs.Names.{Name}
use Rattle.model.specs.Kinds.{row}
use Rattle.model.specs.Steps.{text_refusal}
use Rattle.search.specs.declared.Place.{Place}
use Rattle.search.specs.declared.Place.TheVariants.{Key, Head}
use Rattle.search.specs.declared.Search.{Search}
use Rattle.search.specs.declared.Search.TheVariants.{Found, Missing}
use Rattle.search.specs.declared.KeyPlace.{KeyPlace}
use Rattle.search.specs.declared.HeadPlace.{HeadPlace}

-- ---- the name's local number

-- What an answer says of it.
abbrev pub Tells : Result Search Refusal → Option ℕ → Type 0
Tells (Ok (Found x)) o = o ≡ some x.0
Tells (Ok (Missing place)) o = o ≡ none
Tells (Err why) o = ⊥

-- ---- where the search ended, on any memory

-- The search for a key among the kind k's main entries. The place of a key that is missing comes with the key's hash and this lead.
abbrev pub EndsKey : Sizes → Bytes → Bytes → ℕ → Bytes → Bytes → Result Search Refusal → Type 0
EndsKey s pages lists k key lead (Ok (Found i)) = Searched s (row k).main_at pages lists key (Ok (P.At i.0))
EndsKey s pages lists k key lead (Ok (Missing (Key x))) = Searched s (row k).main_at pages lists key (Ok (P.Free x.place)) × (x.h ≡ fnv_of key) × (x.lead ≡ lead)
EndsKey s pages lists k key lead (Ok (Missing (Head x))) = ⊥
EndsKey s pages lists k key lead (Err why) = Searched s (row k).main_at pages lists key (Err why)

-- What the main dictionary stores behind the head number f.
abbrev pub key_behind : ℕ → ℕ → Bytes → Bytes
key_behind k f rest = cond (row k).paired (fid f ++ rest) rest

-- The head is stored under the number f, or the kind has none. The search for the key ended so.
pub record KeyEnded (s : Sizes) (pages lists : Bytes) (k : ℕ) (head rest : Bytes) (r : Result Probe Refusal) : Type 0 where
  pub f : ℕ
  pub behind : (row k).paired ≡ true → Searched s (row k).heads_at pages lists head (Ok (P.At f))
  pub searched : Searched s (row k).main_at pages lists (key_behind k f rest) r

-- The key is missing, and its place comes with what an add of it needs.
pub record KeyMissed (s : Sizes) (pages lists : Bytes) (k : ℕ) (head rest : Bytes) (x : KeyPlace) : Type 0 where
  pub ended : KeyEnded s pages lists k head rest (Ok (P.Free x.place))
  pub lead : (row k).paired ≡ true → x.lead ≡ fid ended.f
  pub hashed : x.h ≡ fnv_of (key_behind k ended.f rest)

-- The search for the head ended so, and the key was not searched.
pub record HeadEnded (s : Sizes) (pages lists : Bytes) (k : ℕ) (head : Bytes) (r : Result Probe Refusal) : Type 0 where
  pub paired : (row k).paired ≡ true
  pub searched : Searched s (row k).heads_at pages lists head r

-- The head is missing.
pub record HeadMissed (s : Sizes) (pages lists : Bytes) (k : ℕ) (head : Bytes) (x : HeadPlace) : Type 0 where
  pub ended : HeadEnded s pages lists k head (Ok (P.Free x.place))
  pub hashed : x.h ≡ fnv_of head

-- The search for a name of the kind k with this head and this rest.
abbrev pub EndedBy : Sizes → Bytes → Bytes → ℕ → Bytes → Bytes → Result Search Refusal → Type 0
EndedBy s pages lists k head rest (Ok (Found i)) = KeyEnded s pages lists k head rest (Ok (P.At i.0))
EndedBy s pages lists k head rest (Ok (Missing (Key x))) = KeyMissed s pages lists k head rest x
EndedBy s pages lists k head rest (Ok (Missing (Head x))) = HeadMissed s pages lists k head x
EndedBy s pages lists k head rest (Err why) = HeadEnded s pages lists k head (Err why) ⊎ KeyEnded s pages lists k head rest (Err why)

-- The search for the name a.
abbrev pub SearchEnded : Sizes → Bytes → Bytes → Name → Result Search Refusal → Type 0
SearchEnded s pages lists a r = EndedBy s pages lists a.kind ((row a.kind).head a) ((row a.kind).rest a) r

-- The name is not stored: where an add of it starts.
abbrev pub PlaceEnded : Sizes → Bytes → Bytes → Name → Place → Type 0
PlaceEnded s pages lists a place = SearchEnded s pages lists a (Ok (Missing place))

-- The search and the check of the text. An answer of the search counts only if the text is legal.
abbrev pub NameSought : Sizes → Bytes → Bytes → Name → Result Search Refusal → Type 0
NameSought s pages lists a (Ok r) = (text_refusal a ≡ none) × SearchEnded s pages lists a (Ok r)
NameSought s pages lists a (Err why) = (text_refusal a ≡ some why) ⊎ ((text_refusal a ≡ none) × SearchEnded s pages lists a (Err why))
