-- What the end of a search says of the name, on memory that stands for a state. Assumes nothing.
use Prim.Native.Nat.{ℕ, ◌<◌}
use mathlib.Core.Path.{◌≡◌, refl, ◌∙◌}
use mathlib.Core.Logic.{inl, inr}
use mathlib.Core.Bool.{true, false}
use mathlib.Core.Option.{none, some}
use Rattle.std.specs.Prelude.{Result, Ok, Err}
use Rattle.slices.specs.Bytes.{Bytes}
use Rattle.slices.proofs.Tests.{Split, split}
use Rattle.refusals.specs.declared.Refusal.{Refusal}
use Rattle.refusals.specs.declared.Refusal.TheVariants.{Unopened}
use Rattle.fnv.specs.Fnv.{fnv_of}
use Rattle.layout.specs.declared.Sizes.{Sizes}
use Rattle.layout.specs.Sizes.{kinds}
use Rattle.ranked_pair_dictionary.specs.FrequentId.{fid}
use Rattle.bytes_index.specs.declared.Probe.{Probe}
use Rattle.bytes_index.specs.declared.Probe.TheVariants as P
use Rattle.bytes_index.specs.Search.{Searched}
use Rattle.model.specs.Names.{Name}
use Rattle.model.specs.Kinds.{row}
use Rattle.model.specs.State.{State, local_of, entry_number}
use Rattle.model.specs.Steps.{checks, name_head, new_head, key_of}
use Rattle.model.specs.Keys.{keys_of, looked_up}
use Rattle.model.proofs.Keys.{looked-up}
use Rattle.model.proofs.Legal.{legal-kind}
use Rattle.memory.specs.Stands.{Stands}
use Rattle.memory.proofs.Probes.{main-at, main-free, main-bad, head_at, head-free, head-bad}
use Rattle.search.specs.declared.Place.TheVariants.{Key, Head}
use Rattle.search.specs.declared.Search.{Search}
use Rattle.search.specs.declared.Search.TheVariants.{Found, Missing}
use Rattle.search.specs.declared.Sought.{Sought}
use Rattle.search.specs.Found.{Tells, EndsKey, key_behind, KeyEnded, HeadEnded, EndedBy, SearchEnded}
use Rattle.search.specs.Sought.{KeyHashed, HashedBy}

-- The search for a key, as a part of the search for a name.
pub key-ends : (s : Sizes) (pages lists : Bytes) (k f : ℕ) (head rest : Bytes) (key lead : Bytes) (r : Result Search Refusal) → key ≡ key_behind k f rest
    → ((row k).paired ≡ true → Searched s (row k).heads_at pages lists head (Ok (P.At f)) × (lead ≡ fid f))
    → EndsKey s pages lists k key lead r
    → EndedBy s pages lists k head rest r
key-ends s pages lists k f head rest key lead r q h e = go r (rw q at e)
  where
    ended : (p : Result Probe Refusal) → Searched s (row k).main_at pages lists (key_behind k f rest) p → KeyEnded s pages lists k head rest p
    ended p t = record { f = f; behind = λ y. (h y).0; searched = t }

    go : (r : Result Search Refusal) → EndsKey s pages lists k (key_behind k f rest) lead r → EndedBy s pages lists k head rest r
    go (Ok (Found i)) t = ended (Ok (P.At i.0)) t
    go (Ok (Missing (Key x))) t = record { ended = ended (Ok (P.Free x.place)) t.0; lead = λ y. t.2 ∙ (h y).1; hashed = t.1 }
    go (Ok (Missing (Head x))) t = absurd t
    go (Err why) t = inr (ended (Err why) t)

-- So its hash and its lead are those of the name's key, whatever the answer is.
pub key-hashed : (s : Sizes) (pages lists : Bytes) (k f : ℕ) (head rest : Bytes) (key lead : Bytes) (x : Sought) (r : Result Search Refusal) → key ≡ key_behind k f rest
    → ((row k).paired ≡ true → Searched s (row k).heads_at pages lists head (Ok (P.At f)) × (x.lead ≡ fid f))
    → x.h ≡ fnv_of key
    → EndsKey s pages lists k key lead r
    → HashedBy s pages lists k head rest x r
key-hashed s pages lists k f head rest key lead x r q h n e = go r (rw q at e)
  where
    hashed : (p : Result Probe Refusal) → Searched s (row k).main_at pages lists (key_behind k f rest) p → KeyHashed s pages lists k head rest x p
    hashed p t = record { ended = record { f = f; behind = λ y. (h y).0; searched = t }; lead = λ y. (h y).1; hashed = rw q at n }

    go : (r : Result Search Refusal) → EndsKey s pages lists k (key_behind k f rest) lead r → HashedBy s pages lists k head rest x r
    go (Ok (Found i)) t = hashed (Ok (P.At i.0)) t
    go (Ok (Missing (Key y))) t = hashed (Ok (P.Free y.place)) t.0
    go (Ok (Missing (Head y))) t = absurd t
    go (Err why) t = inr (hashed (Err why) t)

-- A refusal of the search is number 3.
pub search-refused : (s : Sizes) (pages lists : Bytes) (k : ℕ) (head rest : Bytes) {why : Refusal} → EndedBy s pages lists k head rest (Err why) → why ≡ Unopened
search-refused s pages lists k head rest (inl H) = H.searched.range
search-refused s pages lists k head rest (inr K) = K.searched.range

-- ---- at a state, of a legal name

module _ {s : Sizes} {st : State} {pages lists : Bytes} (S : Stands s st pages lists) (a : Name) (legal : checks s a ≡ none) where
  known : a.kind < kinds
  known = legal-kind s a legal

  -- The key that was searched is the name's own.
  pub own_key : (r : Result Probe Refusal) (K : KeyEnded s pages lists a.kind ((row a.kind).head a) ((row a.kind).rest a) r)
      → (new_head a (st.part a.kind) ≡ false) × (key_of (st.part a.kind).heads a ≡ key_behind a.kind K.f ((row a.kind).rest a))
  own_key r K = go (split (row a.kind).paired)
    where
      go : Split (row a.kind).paired → (new_head a (st.part a.kind) ≡ false) × (key_of (st.part a.kind).heads a ≡ key_behind a.kind K.f ((row a.kind).rest a))
      go (inl p) =
          let e : entry_number (name_head a) (st.part a.kind).heads ≡ some K.f = head_at s st pages lists S a.kind known (name_head a) p K.f (K.behind p) in
          rw (p, e) (refl, refl)
      go (inr p) = rw p (refl, refl)

  -- A head that was not found is a new one.
  pub own_new : (j : ℕ) → HeadEnded s pages lists a.kind ((row a.kind).head a) (Ok (P.Free j)) → new_head a (st.part a.kind) ≡ true
  own_new j H = rw (H.paired, head-free s st pages lists S a.kind known (name_head a) H.paired j H.searched)

  by-dictionaries : local_of a (st.part a.kind).names ≡ looked_up a (st.part a.kind)
  by-dictionaries = looked-up s S.good.sizes a _ _ (st.part a.kind) (S.good.part a.kind) legal

  -- So its local number is that of the key.
  by_key : (r : Result Probe Refusal) (K : KeyEnded s pages lists a.kind ((row a.kind).head a) ((row a.kind).rest a) r)
      → local_of a (st.part a.kind).names
      ≡ entry_number (key_behind a.kind K.f ((row a.kind).rest a)) (keys_of (st.part a.kind).heads (st.part a.kind).names)
  by_key r K = let o = own_key r K in by-dictionaries ∙ rw (o.0, o.1)

  pub tells : (r : Result Search Refusal) → SearchEnded s pages lists a r → Tells r (local_of a (st.part a.kind).names)
  tells (Ok (Found i)) K = by_key _ K ∙ main-at s st pages lists S a.kind known _ i.0 K.searched
  tells (Ok (Missing (Key x))) M = by_key _ M.ended ∙ main-free s st pages lists S a.kind known _ x.place M.ended.searched
  tells (Ok (Missing (Head x))) M = by-dictionaries ∙ rw (own_new x.place M.ended)
  tells (Err why) (inl H) = head-bad s st pages lists S a.kind known (name_head a) H.paired H.searched
  tells (Err why) (inr K) = main-bad s st pages lists S a.kind known _ K.searched
