-- From a number to its block's owner, to the entry, to the name. Assumes nothing.
use Prim.Native.Nat.{ℕ, ◌+◌, ◌*◌, ◌/◌, ◌%◌, ◌^◌}
use mathlib.Core.Path.{◌≡◌, refl, sym, ap}
use mathlib.Core.Option.{Option, none, some}
use Rattle.std.specs.Prelude.{Some, None, Result, Ok}
use Rattle.slices.specs.Bytes.{Bytes}
use Rattle.layout.specs.declared.Sizes.{Sizes}
use Rattle.layout.specs.Numbers.{kind_number}
use Rattle.layout.proofs.Numbers.{kind-below}
use Rattle.refusals.specs.declared.Refusal.{Refusal}
use Rattle.bytes_dictionary.specs.Reading.{Lookup, Gives, Looked}
use Rattle.blocks.specs.Blocks.{Block, free, held}
use Rattle.meta_dv_dict.specs.declared.Owner.{Owner}
use Rattle.meta_dv_dict.specs.Answers.{owned_by, owned, Locals}
use Rattle.model.specs.Names.{Name}
use Rattle.model.specs.Kinds.{row}
use Rattle.model.specs.State.{State, name_in, name_at, name_of}
use Rattle.model.specs.Steps.{key_of}
use Rattle.memory.specs.Stands.{Stands}
use Rattle.memory.proofs.Named.{named-entry, unnamed-entry, named-legal}
use Rattle.locate.specs.declared.pieces.Pieces.{Pieces}
use Rattle.locate.specs.Located.{Located, located, Tells, LocatesEntry, LocatesName}

-- ---- what a block's owner says of a number's name

owner-local : (w number : ℕ) (st : State) (o : Block) (y : Owner) → owned (Ok (Some y)) ≡ Ok (owned_by w number o)
    → name_at w st number o ≡ name_in y.local.0 (st.part (kind_number y.kind)).names
owner-local w number st free y e = absurd (cc e)
owner-local w number st (held j l) y e =
    let q : (kind_number y.kind, y.local.0) ≡ (j, l * 2 ^ w + number % 2 ^ w) = cc e in
    ap (λ (x : ℕ × ℕ). name_in x.1 (st.part x.0).names) (sym q)

owner-free : (w number : ℕ) (st : State) (o : Block) → owned (Ok None) ≡ Ok (owned_by w number o) → name_at w st number o ≡ none
owner-free w number st free e = refl
owner-free w number st (held j l) e = absurd (cc e)

module _ (s : Sizes) (pages lists : Bytes) (number : ℕ) where
  pub located-free : Locals s lists number (Ok None) → LocatesName s pages lists number (Ok None)
  unfolding name_of
  located-free L =
      record { range = tt; right = λ st S. rw (owner-free s.w number st (st.blocks.owner (number / 2 ^ s.w)) (L.right st.blocks S.blocked)) tt }

  -- The lookup of a local number's entry.
  module _ (y : Owner) (L : Locals s lists number (Ok (Some y))) where
    named : (st : State) → Stands s st pages lists → name_of s st number ≡ name_in y.local.0 (st.part (kind_number y.kind)).names
    unfolding name_of
    named st S = owner-local s.w number st (st.blocks.owner (number / 2 ^ s.w)) y (L.right st.blocks S.blocked)

    -- By the name that the number has.
    by_name : (z : Located) (st : State) → Stands s st pages lists
        → ((a : Name) → name_in y.local.0 (st.part (kind_number y.kind)).names ≡ some a → Tells (some a) z)
        → (name_in y.local.0 (st.part (kind_number y.kind)).names ≡ none → Tells none z)
        → Tells (name_of s st number) z
    by_name z st S f g = rw (named st S) (go (name_in y.local.0 (st.part (kind_number y.kind)).names) refl)
      where
        go : (o : Option Name) → name_in y.local.0 (st.part (kind_number y.kind)).names ≡ o → Tells o z
        go none e = g e
        go (some a) e = f a e

    -- What a lookup gives where the number has a name, and where it has none.
    module _ (st : State) (S : Stands s st pages lists) (r : Lookup) (look : Looked s (row (kind_number y.kind)).main_at y.local.0 pages lists r) where
      given : (a : Name) → name_in y.local.0 (st.part (kind_number y.kind)).names ≡ some a → Gives (some (key_of (st.part (kind_number y.kind)).heads a)) r
      given a e = rw (named-entry s st pages lists S (kind_number y.kind) (kind-below y.kind) y.local.0 a e) at (look.right S.store S.stored)

      given-none : name_in y.local.0 (st.part (kind_number y.kind)).names ≡ none → Gives none r
      given-none e = rw (unnamed-entry s st pages lists S (kind_number y.kind) (kind-below y.kind) y.local.0 e) at (look.right S.store S.stored)

    pub located-entry : (stored : Bytes) (r : Result Pieces Refusal) → Looked s (row (kind_number y.kind)).main_at y.local.0 pages lists (Ok (Some stored))
        → LocatesEntry s pages lists (kind_number y.kind) stored r
        → LocatesName s pages lists number (located r)
    located-entry stored r look E =
        record {
          range = E.range;
          right = λ st S. by_name (located r) st S
              (λ a e.
              let l = named-legal s st pages lists S (kind_number y.kind) (kind-below y.kind) y.local.0 a e in
              E.right st a S l.0 l.1 l.2 (given st S (Ok (Some stored)) look a e))
              (λ e. absurd (given-none st S (Ok (Some stored)) look e));
        }

    pub located-nothing : Looked s (row (kind_number y.kind)).main_at y.local.0 pages lists (Ok None) → LocatesName s pages lists number (Ok None)
    located-nothing look = record { range = tt; right = λ st S. by_name (Ok None) st S (given st S (Ok None) look) (λ e. tt) }
