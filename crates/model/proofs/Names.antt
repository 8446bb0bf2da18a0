-- The test of equality; a kind's names and their local numbers. Assumes nothing.
use Prim.Native.Nat.{ℕ, ◌<◌}
use mathlib.Core.Path.{◌≡◌, refl, sym, ap, ◌∙◌}
use mathlib.Core.Logic.{inl, inr}
use mathlib.Core.Bool.{true, ◌&&◌}
use mathlib.Core.List.{List, [], ◌∷◌}
use mathlib.Core.Option.{none, some}
use native.Mathlib.Omega.{arith}
use lib.Dec.{eqb}
use lib.ListN.{length}
use borrow.Author.Tests.{eqb-true, eq-eqb, ne_eqb}
use Rattle.slices.specs.Bytes.{same_bytes}
use Rattle.slices.proofs.Bytes.{bytes-true, bytes_same}
use Rattle.slices.proofs.Tests.{Split, split, and_left, and_right}
use Rattle.layout.specs.declared.Sizes.{Sizes}
use Rattle.model.specs.Names.{Name, same_name}
use Rattle.model.specs.State.{Stamped, local_of, name_in}
use Rattle.model.specs.Good.{NamesOf}

-- ---- equality

pub name-true : (a b : Name) → same_name a b ≡ true → a ≡ b
name-true a b e =
    let p : a.kind ≡ b.kind = eqb-true a.kind b.kind (and_left (eqb a.kind b.kind) _ e) in
    let r : (same_bytes a.first b.first && same_bytes a.second b.second) ≡ true = and_right (eqb a.kind b.kind) _ e in
    let f : a.first ≡ b.first = bytes-true a.first b.first (and_left (same_bytes a.first b.first) _ r) in
    let g : a.second ≡ b.second = bytes-true a.second b.second (and_right (same_bytes a.first b.first) _ r) in
    λ i. record { kind = p i; first = f i; second = g i }

pub name-same : (a : Name) → same_name a a ≡ true
name-same a = rw (eq-eqb a.kind a.kind refl, bytes_same a.first) (bytes_same a.second)

-- ---- local numbers

pub local-lt : (a : Name) (xs : List Stamped) (n : ℕ) → local_of a xs ≡ some n → n < length xs
local-lt a [] n e = cc
local-lt a (x ∷ xs) n e = go (split (same_name a x.name)) (local-lt a xs n)
  where
    go : Split (same_name a x.name) → (local_of a xs ≡ some n → n < length xs) → n < length (x ∷ xs)
    go (inl p) ih =
        let q : some (length xs) ≡ some n = rw p at e in
        let u : length xs ≡ n = cc in omega arith
    go (inr p) ih = let h : n < length xs = ih (rw p at e) in omega arith

-- A name's local number leads back to it.
pub name_back : (a : Name) (xs : List Stamped) (n : ℕ) → local_of a xs ≡ some n → name_in n xs ≡ some a
name_back a [] n e = cc
name_back a (x ∷ xs) n e = go (split (same_name a x.name)) (name_back a xs n)
  where
    go : Split (same_name a x.name) → (local_of a xs ≡ some n → name_in n xs ≡ some a) → name_in n (x ∷ xs) ≡ some a
    go (inl p) ih =
        let q : some (length xs) ≡ some n = rw p at e in
        let u : n ≡ length xs = cc in
        rw (eq-eqb n (length xs) u) (ap some (sym (name-true a x.name p)))
    go (inr p) ih =
        let q : local_of a xs ≡ some n = rw p at e in
        let h : n < length xs = local-lt a xs n q in
        rw (ne_eqb n (length xs) (λ u. omega arith)) (ih q)

-- And the name at a local number has it.
pub local_back : (s : Sizes) (k t : ℕ) (a : Name) (xs : List Stamped) (n : ℕ) → NamesOf s k t xs → name_in n xs ≡ some a → (local_of a xs ≡ some n) × (a.kind ≡ k)
local_back s k t a [] n o e = cc
local_back s k t a (x ∷ xs) n o e = go (split (eqb n (length xs))) (split (same_name a x.name)) (local_back s k x.stamp a xs n o.4)
  where
    go : Split (eqb n (length xs)) → Split (same_name a x.name)
        → (name_in n xs ≡ some a → (local_of a xs ≡ some n) × (a.kind ≡ k)) → (local_of a (x ∷ xs) ≡ some n) × (a.kind ≡ k)
    go (inl p) q ih =
        let u : some x.name ≡ some a = rw p at e in
        let v : x.name ≡ a = cc in
        let m : n ≡ length xs = eqb-true n (length xs) p in
        (rw (v, name-same a) (ap some (sym m)), rw (← v) o.1)
    go (inr p) (inl q) ih =
        let r : (local_of a xs ≡ some n) × (a.kind ≡ k) = ih (rw p at e) in
        let u : a ≡ x.name = name-true a x.name q in
        let v : local_of a xs ≡ none = rw u o.2 in
        let y : some n ≡ none = sym r.0 ∙ v in cc
    go (inr p) (inr q) ih = rw q (ih (rw p at e))
