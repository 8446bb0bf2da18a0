-- Each answer of open is as promised. Assumes nothing.
use Prim.Native.Nat.{ℕ, ◌<◌, ◌≤◌}
use mathlib.Core.Path.{◌≡◌, refl, sym}
use mathlib.Core.Logic.{inl, inr}
use mathlib.Core.Bool.{true, false, ◌&&◌}
use native.Mathlib.Omega.{arith}
use borrow.Author.Tests.{lt-ltb, le-ltb, leb-true, leb-false}
use lib.Dec.{leb}
use lib.ListN.{length}
use Rattle.slices.specs.Bytes.{Bytes}
use Rattle.slices.proofs.Tests.{Split, split, and_left, and_right}
use Rattle.refusals.specs.declared.Refusal.{Refusal}
use Rattle.refusals.specs.declared.Refusal.TheVariants.{BadSize, ShortMemory}
use Rattle.layout.specs.declared.Sizes.{Sizes}
use Rattle.std.specs.Prelude.{Some, None}
use Rattle.layout.specs.Sizes.{in_range, made, page_bytes, list_bytes}
use Rattle.layout.proofs.Ranges.{ranged, made-fit, made-bad}
use Rattle.header.specs.Opened.{opened_lists}
use Rattle.model.specs.Answers.{OpenAnswer}
use Rattle.model.specs.Steps.{open_answer}
use Rattle.memory.specs.Promises.{OpenPost}
use Rattle.memory.proofs.Beyond.{beyond-same}
use Rattle.memory.proofs.Opened.{opened-stands, opened-same-beyond}

module _ (s : Sizes) (pages lists : Bytes) where
  -- A refusal writes nothing.
  open-refused : (why : Refusal) → open_answer s (length pages) (length lists) ≡ OpenAnswer.refused why → OpenPost s pages lists (OpenAnswer.refused why) pages lists
  open-refused why e =
      record {
        answer = sym e;
        pages-kept = refl;
        kept = λ w h. refl;
        beyond = beyond-same s pages lists;
        whole = λ h. let z : ◌≡◌ {A = ℕ} 0 1 = cc in absurd (omega arith);
      }

  pub open-bad : made s ≡ None → OpenPost s pages lists (OpenAnswer.refused BadSize) pages lists
  unfolding open_answer
  open-bad m = open-refused BadSize (rw (made-bad s m))

-- The sizes t that passed are the sizes s given.
module _ (s t : Sizes) (m : made s ≡ Some t) (pages lists : Bytes) where
  -- One of the slices is too short.
  pub open-short : (leb (page_bytes t) (length pages) && leb (list_bytes t) (length lists)) ≡ false → OpenPost s pages lists (OpenAnswer.refused ShortMemory) pages lists
  unfolding open_answer
  open-short h = go (split (leb (page_bytes t) (length pages)))
    where
      p : (s ≡ t) × (in_range s ≡ true)
      p = made-fit s t m

      go : Split (leb (page_bytes t) (length pages)) → OpenPost s pages lists (OpenAnswer.refused ShortMemory) pages lists
      go (inl q) =
          let k : page_bytes s ≤ length pages = rw p.0 (leb-true _ _ q) in
          let z : leb (list_bytes t) (length lists) ≡ false = rw q at h in
          let l : length lists < list_bytes s = rw p.0 (leb-false _ _ z) in
          open-refused s pages lists ShortMemory (rw (p.1, le-ltb _ _ k, lt-ltb _ _ l))
      go (inr q) =
          let l : length pages < page_bytes s = rw p.0 (leb-false _ _ q) in
          open-refused s pages lists ShortMemory (rw (p.1, lt-ltb _ _ l))

  pub open_done : (leb (page_bytes t) (length pages) && leb (list_bytes t) (length lists)) ≡ true → (lists' : Bytes) → lists' ≡ opened_lists t lists
      → OpenPost s pages lists OpenAnswer.done pages lists'
  unfolding open_answer
  open_done h lists' e =
      let p = made-fit s t m in
      let k : page_bytes s ≤ length pages = rw p.0 (leb-true _ _ (and_left _ _ h)) in
      let l : list_bytes s ≤ length lists = rw p.0 (leb-true _ _ (and_right (leb (page_bytes t) (length pages)) _ h)) in
      let q : lists' ≡ opened_lists s lists = rw p.0 e in
      record {
        answer = rw (p.1, le-ltb _ _ k, le-ltb _ _ l);
        pages-kept = refl;
        kept = λ w h. let z : ◌≡◌ {A = ℕ} 0 1 = cc in absurd (omega arith);
        beyond = rw q (opened-same-beyond s pages lists);
        whole = λ h. rw q (opened-stands s pages lists (ranged s p.1) k l);
      }
