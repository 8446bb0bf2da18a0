-- The writes of an add keep the lengths of both slices and every byte past what the sizes need, whatever the memory holds. Assumes nothing.
use Prim.Native.Nat.{ℕ, ◌+◌, ◌-◌, ◌*◌, ◌/◌, ◌^◌, ◌≤◌, ◌<◌}
use mathlib.Core.Path.{◌≡◌, refl, sym, ap, ◌∙◌}
use mathlib.Core.Logic.{inr}
use native.Mathlib.Omega.{arith}
use lib.ListN.{length, get_or, drop, length-drop}
use lib.Seq.{ext_get_or, get_or-drop}
use Rattle.slices.specs.Bytes.{Bytes}
use Rattle.layout.specs.declared.Sizes.{Sizes}
use Rattle.layout.specs.Sizes.{InRange, kinds, dictionaries, page_bytes, list_bytes}
use Rattle.layout.proofs.Places.{dict-end, list-bytes}
use Rattle.bytes_buffer.specs.declared.Spot.{Spot}
use Rattle.bytes_dictionary.specs.Written.{pages_after, lists_after, HasRoom}
use Rattle.bytes_dictionary.proofs.Store.{length-pages, length-lists}
use Rattle.bytes_dictionary.proofs.Beside.{bytes-beside, pages-beside}
use Rattle.blocks.specs.Answers.{block_written}
use Rattle.blocks.proofs.Written.{length-written, byte-written}
use Rattle.memory.specs.Promises.{SameBeyond}

-- Lists of one length that agree from n on.
pub drop-same : (n : ℕ) (x y : Bytes) → length x ≡ length y → ((i : ℕ) → n ≤ i → get_or x i 0 ≡ get_or y i 0) → drop n x ≡ drop n y
drop-same n x y l same =
    ext_get_or 0 (drop n x) (drop n y) (length-drop n x ∙ ap (λ (m : ℕ). m - n) l ∙ sym (length-drop n y))
    (λ i h. get_or-drop n x i 0 ∙ same (n + i) (omega arith) ∙ sym (get_or-drop n y i 0))

pub beyond-same : (s : Sizes) (pages lists : Bytes) → SameBeyond s pages lists pages lists
beyond-same s pages lists = record { pages-length = refl; lists_length = refl; pages-beyond = refl; lists-beyond = refl }

pub beyond-trans : (s : Sizes) (pages lists pages₁ lists₁ pages₂ lists₂ : Bytes) → SameBeyond s pages lists pages₁ lists₁ → SameBeyond s pages₁ lists₁ pages₂ lists₂
    → SameBeyond s pages lists pages₂ lists₂
beyond-trans s pages lists pages₁ lists₁ pages₂ lists₂ A B =
    record {
      pages-length = B.pages-length ∙ A.pages-length;
      lists_length = B.lists_length ∙ A.lists_length;
      pages-beyond = B.pages-beyond ∙ A.pages-beyond;
      lists-beyond = B.lists-beyond ∙ A.lists-beyond;
    }

pub insert-beyond : (s : Sizes) (pages lists : Bytes) (d n place : ℕ) (spot : Spot) (stamp : ℕ) (key : Bytes)
    → InRange s → page_bytes s ≤ length pages → list_bytes s ≤ length lists → d < dictionaries → n < s.e → place < 2 * s.e → HasRoom s (length key) spot
    → SameBeyond s pages lists (pages_after s pages spot key) (lists_after s lists d n place spot stamp key)
insert-beyond s pages lists d n place spot stamp key r f g dl nl pl h =
    let a = length-pages s pages spot key in
    let b = length-lists s lists d n place spot stamp key in
    record {
      pages-length = a;
      lists_length = b;
      pages-beyond = drop-same (page_bytes s) _ _ a (pages-beside s pages key spot h);
      lists-beyond = drop-same (list_bytes s) _ _ b
          (λ i l. bytes-beside s lists d n place stamp key r g dl nl pl spot h i (omega (arith, list-bytes s, dict-end s)));
    }

pub block-beyond : (s : Sizes) (pages lists : Bytes) (k n g : ℕ) → InRange s → list_bytes s ≤ length lists → k < kinds → n / 2 ^ s.w < s.b → g < s.b
    → SameBeyond s pages lists pages (block_written s lists k n g)
block-beyond s pages lists k n g r f h l e =
    let a = length-written s lists k n g in
    record {
      pages-length = refl;
      lists_length = a;
      pages-beyond = refl;
      lists-beyond = drop-same (list_bytes s) _ _ a (λ i o. byte-written s lists k n g h l e i (inr o));
    }
