-- What memory stands for depends only on the bytes that the sizes need. Assumes nothing.
use Prim.Native.Nat.{ℕ, ◌+◌, ◌*◌, ◌≤◌, ◌<◌}
use mathlib.Core.Path.{◌≡◌, sym, ap, ◌∙◌}
use native.Mathlib.Omega.{arith}
use lib.ListN.{length, get_or, take, length-take}
use lib.Seq.{get_or-take}
use Rattle.slices.specs.Bytes.{Bytes}
use Rattle.words.proofs.Laws.{word-agree}
use Rattle.layout.specs.declared.Sizes.{Sizes}
use Rattle.layout.specs.Sizes.{list_bytes}
use Rattle.layout.proofs.Places.{dict-end, list-bytes}
use Rattle.bytes_dictionary.proofs.Agree.{store-agree}
use Rattle.blocks.proofs.Tables.{kept-blocks, block-fits}
use Rattle.model.specs.State.{State}
use Rattle.memory.specs.Stands.{Stands}
use Rattle.memory.specs.Lists.{Memory, SameDictionary}

-- ---- lists with the same first n bytes

byte-same : (n : ℕ) (x y : Bytes) → take n x ≡ take n y → (i : ℕ) → i < n → get_or x i 0 ≡ get_or y i 0
byte-same n x y e i l = sym (get_or-take n x i 0 l) ∙ ap (λ (z : Bytes). get_or z i 0) e ∙ get_or-take n y i 0 l

-- Where one has n bytes, the other has.
long_same : (n : ℕ) (x y : Bytes) → take n x ≡ take n y → n ≤ length y → n ≤ length x
long_same n x y e l = omega (arith, length-take n x, length-take n y, ap length e)

-- ---- memory with the same dictionary

pub stands_same : (s : Sizes) (st : State) (m m' : Memory) → SameDictionary s m m' → Stands s st m.pages m.lists → Stands s st m'.pages m'.lists
stands_same s st m m' E S =
    record {
      good = S.good;
      store = S.store;
      stored = store-agree s m.pages m'.pages m.lists m'.lists
          (λ i l. byte-same _ m'.pages m.pages E.pages-same i l)
          (λ i l. in-lists i (omega (arith, dict-end s, list-bytes s)))
          S.store
          (long_same _ m'.pages m.pages E.pages-same S.stored.header.pages-fit)
          (long_same _ m'.lists m.lists E.lists-same S.stored.header.lists-fit)
          S.stored;
      blocked = kept-blocks s st.blocks m.lists m'.lists
          (λ i h. word-agree m'.lists m.lists i (λ k l. in-lists (8 * i + k) (omega (arith, block-fits s i (list_bytes s) (omega arith) h))))
          S.blocked;
      parts = S.parts;
      spaces = S.spaces;
    }
  where
    in-lists : (i : ℕ) → i < list_bytes s → get_or m'.lists i 0 ≡ get_or m.lists i 0
    in-lists i l = byte-same _ m'.lists m.lists E.lists-same i l
