-- Freshly initialised memory stands for the dictionary with no names, and keeps the bytes past what the sizes need. Assumes nothing.
use Prim.Native.Nat.{◌≤◌}
use mathlib.Core.Path.{refl}
use native.Mathlib.Omega.{arith}
use lib.ListN.{length}
use Rattle.slices.specs.Bytes.{Bytes}
use Rattle.layout.specs.declared.Sizes.{Sizes}
use Rattle.layout.specs.Sizes.{InRange, page_bytes, list_bytes}
use Rattle.header.specs.Opened.{opened_lists}
use Rattle.header.proofs.Opened.{opened-length, opened-beyond}
use Rattle.bytes_dictionary.specs.Store.{empty_store}
use Rattle.bytes_dictionary.proofs.Empty.{init-store}
use Rattle.blocks.proofs.Tables.{init-blocks}
use Rattle.model.specs.State.{opened}
use Rattle.model.proofs.Good.{opened-good}
use Rattle.memory.specs.Stands.{Stands}
use Rattle.memory.specs.Promises.{SameBeyond}
use Rattle.memory.proofs.Beyond.{drop-same}

pub opened-stands : (s : Sizes) (pages lists : Bytes) → InRange s → page_bytes s ≤ length pages → list_bytes s ≤ length lists
    → Stands s opened pages (opened_lists s lists)
opened-stands s pages lists r f g =
    record {
      good = opened-good s r;
      store = empty_store;
      stored = init-store s pages lists r f g;
      blocked = init-blocks s lists;
      parts = λ k h. record { main = λ i. refl; stamps = λ i. refl; heads = λ p i. refl; older = λ p i l. absurd (omega arith) };
      spaces = λ d h. refl;
    }

-- Initialisation writes no byte of `pages`.
pub opened-same-beyond : (s : Sizes) (pages lists : Bytes) → SameBeyond s pages lists pages (opened_lists s lists)
opened-same-beyond s pages lists =
    record {
      pages-length = refl;
      lists_length = opened-length s lists;
      pages-beyond = refl;
      lists-beyond = drop-same (list_bytes s) (opened_lists s lists) lists (opened-length s lists) (λ i l. opened-beyond s lists i l);
    }
