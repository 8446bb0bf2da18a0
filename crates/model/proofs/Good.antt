-- The opened state is good, and an add keeps a state good. Assumes nothing.
use Prim.Native.Nat.{ℕ, zero, suc, ◌*◌, ◌/◌, ◌^◌, ◌<◌, ◌≤◌}
use mathlib.Core.Path.{◌≡◌, refl, subst}
use mathlib.Core.Bool.{false}
use mathlib.Core.Option.{Option, none, some}
use native.Mathlib.Omega.{arith}
use native.Mathlib.Decide.{ℕ_discrete}
use borrow.Author.Tests.{ltb-false, eq-eqb, ne_eqb}
use lib.Dec.{ltb}
use lib.ListN.{length}
use lib.Pow as Pow
use Rattle.slices.specs.Updates.{upd}
use Rattle.slices.proofs.Tests.{passed}
use Rattle.refusals.specs.declared.Refusal.TheVariants.{ListFull, NoPage}
use Rattle.layout.specs.declared.Sizes.{Sizes}
use Rattle.layout.specs.Sizes.{InRange, kinds, dictionaries, page_size}
use Rattle.bytes_buffer.specs.Pages.{all_pages}
use Rattle.bytes_buffer.proofs.Pages.{none-taken, grown-used, grown-taken}
use Rattle.blocks.specs.Blocks.{Blocks, took}
use Rattle.blocks.specs.Sound.{Sound, Below, May}
use Rattle.blocks.proofs.Steps.{picked, step-sound, opened-sound}
use Rattle.model.specs.Names.{Name}
use Rattle.model.specs.State.{State, opened, stamp_of, local_of, global_of, number_of}
use Rattle.model.specs.Steps.{name_head, key_of, is_full, space_after, room, Decision, refuse, found, enter, decide, part_after, extended, state_by, after_add}
use Rattle.model.specs.Good.{GoodPart, Good}
use Rattle.model.proofs.Decide.{Entering, entering}
use Rattle.model.proofs.Legal.{legal-kind}
use Rattle.model.proofs.Lengths.{head-short, key-short}
use Rattle.model.proofs.Parts.{sum_more, later, part-good}
use Rattle.model.proofs.Table.{main-below, head-below}
use Rattle.model.proofs.Pages.{space-all}

pub opened-good : (s : Sizes) → InRange s → Good s opened
opened-good s r = record {
  sizes = r;
  sound = (opened-sound s.w s.b).0;
  below = (opened-sound s.w s.b).1;
  part = λ k. record { names = tt; numbered = refl; few_names = omega arith; different = tt; few_heads = omega arith; covered = λ e. tt; headless = λ e. refl };
  used = λ d. omega arith;
  taken = omega (arith, none-taken);
  unused = λ k l h. refl;
  pageless = λ d e. refl;
  beyond = λ d h. refl;
}

-- ---- the whole state

no_local : (w : ℕ) (b : Blocks) (k : ℕ) (o : Option ℕ) → global_of w b k o ≡ none → o ≡ none
no_local w b k none e = refl
no_local w b k (some n) e = cc

module _ (s : Sizes) (st : State) (a : Name) (g : ℕ) (G : Good s st) (e : Entering s st a g) where
  pub may : May s.w st.blocks a.kind g × (g < s.b)
  may = picked s st.blocks a.kind g G.sound G.below e.block

  not_full : (is_full s a (st.part a.kind) ≡ false) × (all_pages (space_after s st a) ≤ s.n)
  unfolding room
  not_full =
      let p = passed (is_full s a (st.part a.kind)) ListFull _ e.roomy in
      let q = passed (ltb s.n (all_pages (space_after s st a))) NoPage _ p.1 in
      (p.0, ltb-false s.n (all_pages (space_after s st a)) q.0)

  pub stamp-more : stamp_of (took s.w st.blocks a.kind g) ≡ suc (stamp_of st.blocks)
  stamp-more = sum_more st.blocks.next a.kind kinds (legal-kind s a e.legal)

  new-local : local_of a (st.part a.kind).names ≡ none
  unfolding number_of
  new-local = no_local s.w st.blocks a.kind (local_of a (st.part a.kind).names) e.new

  part_of : (k : ℕ) → GoodPart s k (stamp_of (took s.w st.blocks a.kind g)) ((took s.w st.blocks a.kind g).next k)
      (upd st.part a.kind (part_after a (st.part a.kind) (stamp_of st.blocks)) k)
  part_of k = rw stamp-more (go (ℕ_discrete a.kind k))
    where
      go : Dec (a.kind ≡ k) → GoodPart s k (suc (stamp_of st.blocks)) ((took s.w st.blocks a.kind g).next k)
          (upd st.part a.kind (part_after a (st.part a.kind) (stamp_of st.blocks)) k)
      go (yes q) = rw (eq-eqb a.kind k q) (subst
          (λ (j : ℕ). GoodPart s j (suc (stamp_of st.blocks)) (suc (st.blocks.next a.kind)) (part_after a (st.part a.kind) (stamp_of st.blocks))) q
          (part-good s a (stamp_of st.blocks) (st.blocks.next a.kind) (st.part a.kind) (G.part a.kind) e.legal new-local not_full.0))
      go (no q) = rw (ne_eqb a.kind k q) (record {
        names = later s k (stamp_of st.blocks) (suc (stamp_of st.blocks)) (st.part k).names (omega arith) (G.part k).names;
        numbered = (G.part k).numbered;
        few_names = (G.part k).few_names;
        different = (G.part k).different;
        few_heads = (G.part k).few_heads;
        covered = (G.part k).covered;
        headless = (G.part k).headless;
      })

  used-of : (d : ℕ) → (space_after s st a d).used ≤ 2 ^ s.p
  unfolding page_size
  used-of = space-all s st a (λ d x. x.used ≤ 2 ^ s.p) G.used
      (λ x. grown-used s.p x (length (name_head a)) (head-short s a e.legal G.sizes))
      (λ x. grown-used s.p x (length (key_of (st.part a.kind).heads a)) (key-short s a e.legal G.sizes (st.part a.kind).heads))

  pageless-of : (d : ℕ) → (space_after s st a d).taken ≡ zero → (space_after s st a d).used ≡ zero
  pageless-of = space-all s st a (λ d x. x.taken ≡ zero → x.used ≡ zero) G.pageless
      (λ x z. absurd (omega (arith, grown-taken s.p x (length (name_head a)))))
      (λ x z. absurd (omega (arith, grown-taken s.p x (length (key_of (st.part a.kind).heads a)))))

  beyond-of : (d : ℕ) → dictionaries ≤ d → (space_after s st a d).taken ≡ zero
  beyond-of = space-all s st a (λ d x. dictionaries ≤ d → x.taken ≡ zero) G.beyond
      (λ x h. absurd (omega (arith, head-below a.kind))) (λ x h. absurd (omega (arith, main-below a.kind)))

  unused-of : (k l : ℕ) → (took s.w st.blocks a.kind g).next k ≤ l * 2 ^ s.w → (took s.w st.blocks a.kind g).block_of k l ≡ zero
  unused-of k l h = go (ℕ_discrete a.kind k)
    where
      inner : st.blocks.next a.kind < l * 2 ^ s.w → Dec (st.blocks.next a.kind / 2 ^ s.w ≡ l)
          → upd (st.blocks.block_of a.kind) (st.blocks.next a.kind / 2 ^ s.w) g l ≡ zero
      inner u (yes e) =
          let v : l * 2 ^ s.w ≤ st.blocks.next a.kind = rw (← e) (omega (arith, Pow.split (st.blocks.next a.kind) s.w)) in
          absurd (omega arith)
      inner u (no q) = rw (ne_eqb (st.blocks.next a.kind / 2 ^ s.w) l q) (G.unused a.kind l (omega arith))

      go : Dec (a.kind ≡ k) → (took s.w st.blocks a.kind g).block_of k l ≡ zero
      go (yes e) = rw (eq-eqb a.kind k e) (inner (rw (eq-eqb a.kind k e) at h) (ℕ_discrete (st.blocks.next a.kind / 2 ^ s.w) l))
      go (no q) = rw (ne_eqb a.kind k q) (G.unused k l (rw (ne_eqb a.kind k q) at h))

  blocks-of : Sound s.w (took s.w st.blocks a.kind g) × Below s.b (took s.w st.blocks a.kind g)
  blocks-of = step-sound s st.blocks a.kind g G.sound G.below e.block

  pub extended-good : Good s (extended s st a g)
  unfolding extended
  extended-good = record {
    sizes = G.sizes;
    sound = blocks-of.0;
    below = blocks-of.1;
    part = part_of;
    used = used-of;
    taken = not_full.1;
    unused = unused-of;
    pageless = pageless-of;
    beyond = beyond-of;
  }

-- An add keeps a state good.
pub add-good : (s : Sizes) (st : State) (a : Name) → Good s st → Good s (after_add s st a)
add-good s st a G = go (decide s st a) refl
  where
    go : (d : Decision) → decide s st a ≡ d → Good s (state_by s st a d)
    go (refuse r) e = G
    go (found n) e = G
    go (enter g) e = extended-good s st a g G (entering s st a g e)
