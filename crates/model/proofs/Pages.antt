-- Pages: the spaces after the entries of an add. Assumes nothing.
use Prim.Native.Nat.{ℕ}
use mathlib.Core.Path.{◌≡◌, sym, subst}
use mathlib.Core.Logic.{inl, inr}
use native.Mathlib.Decide.{ℕ_discrete}
use lib.ListN.{length}
use Rattle.slices.proofs.Tests.{Split, split}
use Rattle.layout.specs.declared.Sizes.{Sizes}
use Rattle.bytes_buffer.specs.Pages.{Space, grown, grown_at}
use Rattle.bytes_buffer.proofs.Pages.{grown-same, grown-other}
use Rattle.model.specs.Names.{Name}
use Rattle.model.specs.Kinds.{row}
use Rattle.model.specs.State.{State}
use Rattle.model.specs.Steps.{name_head, new_head, key_of, space_head, space_after}

-- Storing an entry keeps what holds of all spaces and of every grown one.
grown-all : (P : ℕ → Space → Type 0) (s : Sizes) (f : ℕ → Space) (d n : ℕ) → ((i : ℕ) → P i (f i)) → P d (grown s.p (f d) n) → (i : ℕ)
    → P i (grown_at s f d n i)
grown-all P s f d n u h i = go (ℕ_discrete d i)
  where
    go : Dec (d ≡ i) → P i (grown_at s f d n i)
    go (yes e) = subst (λ (j : ℕ). P j (grown_at s f d n j)) e (subst (λ (x : Space). P d x) (sym (grown-same s f d n)) h)
    go (no q) = subst (λ (x : Space). P i x) (sym (grown-other s f d n i (λ e. q (sym e)))) (u i)

-- What holds of all spaces and of every grown one holds after an add.
module _ (s : Sizes) (st : State) (a : Name) where
  pub space-all : (P : ℕ → Space → Type 0) → ((d : ℕ) → P d (st.space d)) → ((x : Space) → P (row a.kind).heads_at (grown s.p x (length (name_head a))))
      → ((x : Space) → P (row a.kind).main_at (grown s.p x (length (key_of (st.part a.kind).heads a)))) → (d : ℕ) → P d (space_after s st a d)
  space-all P u h m d =
      grown-all P s (space_head s st a) (row a.kind).main_at (length (key_of (st.part a.kind).heads a))
      (go (split (new_head a (st.part a.kind)))) (m (space_head s st a (row a.kind).main_at)) d
    where
      go : Split (new_head a (st.part a.kind)) → (i : ℕ) → P i (space_head s st a i)
      go (inl p) i = rw p (grown-all P s st.space (row a.kind).heads_at (length (name_head a)) u (h (st.space (row a.kind).heads_at)) i)
      go (inr p) i = rw p (u i)
