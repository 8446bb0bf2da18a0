-- One memory stands for one store. Assumes nothing.
use Prim.Native.Nat.{ℕ, ◌<◌}
use mathlib.Core.Path.{◌≡◌, sym, ap, ◌∙◌}
use mathlib.Core.Option.{some}
use native.Mathlib.Omega.{arith}
use native.Mathlib.Decide.{dec_lt}
use lib.ListN.{get_or}
use Rattle.slices.specs.Bytes.{Bytes}
use Rattle.words.specs.Words.{word_at}
use Rattle.layout.specs.declared.Sizes.{Sizes}
use Rattle.layout.specs.Sizes.{dictionaries}
use Rattle.layout.specs.Fields.{entry_at}
use Rattle.bytes_index.proofs.Index.{addresses-once}
use Rattle.bytes_buffer.proofs.Tables.{one-space}
use Rattle.bytes_dictionary.specs.Store.{Store, DictAt, StoreAt}

-- Two stores that agree on dictionary d.
pub record SameDict (st st' : Store) (d : ℕ) : Type 0 where
  pub entries : (i : ℕ) → st.entries d i ≡ st'.entries d i
  pub count : st.count d ≡ st'.count d
  pub stamp : (i : ℕ) → st.stamp d i ≡ st'.stamp d i
  pub space : st.space d ≡ st'.space d

pub one_store : (s : Sizes) (st st' : Store) (pages lists : Bytes) → StoreAt s st pages lists → StoreAt s st' pages lists
    → (d : ℕ) → d < dictionaries → SameDict st st' d
one_store s st st' pages lists S S' d l =
    record {
      entries = λ i. same i (dec_lt i (st.count d));
      count = counts;
      stamp = λ i. stamps i (dec_lt i (st.count d));
      space = one-space s st.space st'.space (word_at lists) d S.paged S'.paged l;
    }
  where
    D : DictAt s pages lists d (st.entries d) (st.count d) (st.stamp d)
    D = S.dict d l

    D' : DictAt s pages lists d (st'.entries d) (st'.count d) (st'.stamp d)
    D' = S'.dict d l

    counts : st.count d ≡ st'.count d
    counts = sym D.counted ∙ D'.counted

    same : (i : ℕ) → Dec (i < st.count d) → st.entries d i ≡ st'.entries d i
    same i (yes h) =
        let u = D.in_use i h in
        let v = D'.in_use i (omega (arith, counts)) in
        let e : u.0 ≡ v.0 =
        addresses-once s (λ a. get_or pages a 0) (word_at lists (entry_at s d i)) u.0 v.0 (D.holds.entry i u.0 u.1).1 (D'.holds.entry i v.0 v.1).1 in
        u.1 ∙ ap some e ∙ sym v.1
    same i (no h) = D.past i (omega arith) ∙ sym (D'.past i (omega (arith, counts)))

    stamps : (i : ℕ) → Dec (i < st.count d) → st.stamp d i ≡ st'.stamp d i
    stamps i (yes h) = sym (D.stamped i h) ∙ D'.stamped i (omega (arith, counts))
    stamps i (no h) = D.unstamped i (omega arith) ∙ sym (D'.unstamped i (omega (arith, counts)))
