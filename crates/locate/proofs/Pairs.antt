-- An entry that is a head's frequent id and the rest: what its reading says of the name. Assumes nothing.
use Prim.Native.Nat.{ℕ, ◌+◌, ◌-◌, ◌/◌, ◌%◌, ◌<◌, ◌≤◌}
use mathlib.Core.Path.{◌≡◌, refl, sym, ap, subst, ◌∙◌}
use mathlib.Core.Logic.{◌⊎◌, inl, inr}
use mathlib.Core.Bool.{true, false, ◌&&◌, cond, false≢true}
use mathlib.Core.List.{[], ◌∷◌, ◌++◌, append-nil}
use mathlib.Core.Option.{none, some}
use native.Mathlib.Omega.{arith}
use lib.Dec.{leb}
use lib.ListN.{length, take, drop, length-append, length-drop, take-append-drop}
use lib.Seq.{drop_at}
use borrow.Author.Tests.{leb-true}
use Rattle.std.specs.Prelude.{Some, None, Result, Ok, Err}
use Rattle.slices.specs.Bytes.{Bytes}
use Rattle.slices.proofs.Tests.{Split, split}
use Rattle.refusals.specs.declared.Refusal.{Refusal}
use Rattle.refusals.specs.declared.Refusal.TheVariants.{Unopened}
use Rattle.ranked_pair_dictionary.specs.declared.FrequentId.{FrequentId}
use Rattle.ranked_pair_dictionary.specs.FrequentId.{of_be, fid, read_as, read_further, read_fid_answer}
use Rattle.ranked_pair_dictionary.proofs.Laws.{fid-read}
use Rattle.ranked_pair_iri_dv_dict.specs.Split.{head_length}
use Rattle.layout.specs.declared.Sizes.{Sizes}
use Rattle.layout.specs.Sizes.{page_bytes}
use Rattle.layout.specs.Numbers.{kind_number}
use Rattle.layout.specs.declared.Kind.{Kind}
use Rattle.layout.proofs.Numbers.{kind-below}
use Rattle.bytes_dictionary.specs.Reading.{Lookup, Gives, Looked}
use Rattle.model.specs.Names.{Name}
use Rattle.model.specs.Kinds.{Way, splits, whole, packs, pairs, has_heads, head_by, rest_by, row}
use Rattle.model.specs.State.{State, entry_number}
use Rattle.model.specs.Steps.{checks, is_none, or_else, new_head, key_of}
use Rattle.model.proofs.Table.{first_only, no_second-row}
use Rattle.model.proofs.Legal.{legal}
use Rattle.model.proofs.Keys.{entry_lt}
use Rattle.model.proofs.Parts.{is_some}
use Rattle.kind_table.specs.Rows.{is_split}
use Rattle.memory.specs.Stands.{Stands}
use Rattle.memory.proofs.Named.{head-entry}
use Rattle.locate.specs.declared.pieces.Told.{Told}
use Rattle.locate.specs.declared.pieces.Pieces.{Pieces}
use Rattle.locate.specs.Copied.{pieces_in}
use Rattle.locate.specs.Located.{EntryIn, stored_bytes, Bounded, located, LocatesEntry}
use Rattle.locate.proofs.Lies.{looked-in, rest-lies}

-- A frequent id that was read lies in the bytes.
pub read_fits : (b : Bytes) (x : FrequentId) → read_fid_answer b ≡ Ok x → x.length ≤ length b
unfolding read_fid_answer read_further
read_fits [] x e = absurd (cc e)
read_fits (c ∷ b) x e = go (split (leb (c / 64) (length b)))
  where
    go : Split (leb (c / 64) (length b)) → x.length ≤ length (c ∷ b)
    go (inl p) =
        let u = rw p at e in
        let w : record { value = of_be (c % 64) (take (c / 64) b); length = c / 64 + 1 } ≡ x = cc u in
        omega (arith, ap (λ (y : FrequentId). y.length) w, leb-true (c / 64) (length b) p)
    go (inr p) = absurd (cc (rw p at e))

-- How many bytes of the rest belong to the first part: all where the first part splits, and else none.
abbrev pub Moved : Way → ℕ → ℕ → Type 0
Moved w rest m = ((is_split w ≡ true) × (m ≡ rest)) ⊎ ((is_split w ≡ false) × (m ≡ 0))

pub moved-le : (w : Way) (rest m : ℕ) → Moved w rest m → m ≤ rest
moved-le w rest m (inl h) = omega arith
moved-le w rest m (inr h) = omega arith

-- Head and rest are both parts, one after the other.
module _ (s : Sizes) (a : Name) (passes : checks s a ≡ none) where
  pub joined : (w : Way) → (row a.kind).way ≡ w → has_heads w ≡ true → (m : ℕ) → Moved w (length (rest_by w a)) m
      → (head_by w a ++ rest_by w a ≡ a.first ++ a.second)
      × (length (head_by w a) + m ≡ length a.first)
      × (length (rest_by w a) - m ≡ length a.second)
  joined splits v pair m (inl h) =
      let t : a.second ≡ [] = (legal s a passes).shape.second (no_second-row a.kind (ap first_only v)) in
      let f : head_by splits a ++ rest_by splits a ≡ a.first = take-append-drop (head_length a.first) a.first in
      let l : length (head_by splits a) + length (rest_by splits a) ≡ length a.first = simp length-append at (ap length f) in
      let o : length a.second ≡ 0 = ap length t in
      (f ∙ rw t (sym (append-nil a.first)), omega (arith, h.1), omega (arith, h.1))
  joined splits v pair m (inr h) = absurd (false≢true (sym h.0))
  joined whole v pair m h = absurd (false≢true pair)
  joined packs v pair m h = absurd (false≢true pair)
  joined pairs v pair m (inl h) = absurd (false≢true h.0)
  joined pairs v pair m (inr h) = rw h.1 (refl, omega arith, omega arith)

module _ (s : Sizes) (pages lists stored : Bytes) (kind : Kind) (pair : (row (kind_number kind)).paired ≡ true) where
  -- What the entry of a name begins with.
  record Begins (a : Name) (st : State) : Type 0 where
    f : ℕ
    number : entry_number ((row (kind_number kind)).head a) (st.part (kind_number kind)).heads ≡ some f
    bytes : stored ≡ fid f ++ (row (kind_number kind)).rest a
    reads : read_fid_answer stored ≡ read_as f (length (fid f))

  begins : (st : State) (a : Name) → Stands s st pages lists → a.kind ≡ kind_number kind → new_head a (st.part (kind_number kind)) ≡ false
      → stored ≡ key_of (st.part (kind_number kind)).heads a
      → Begins a st
  begins st a S q old e =
      let hs = (st.part (kind_number kind)).heads in
      let o = subst (λ (j : ℕ). ((row j).paired && is_none (entry_number ((row j).head a) hs)) ≡ false) q old in
      let h = is_some (entry_number ((row (kind_number kind)).head a) hs) (rw pair at o) in
      let d = subst
      (λ (j : ℕ). stored ≡ cond (row j).paired (fid (or_else (length hs) (entry_number ((row j).head a) hs)) ++ (row j).rest a) ((row j).rest a))
      q e in
      let b : stored ≡ fid h.0 ++ (row (kind_number kind)).rest a = rw (pair, h.1) at d in
      let low : h.0 < length (st.part (kind_number kind)).heads = entry_lt ((row (kind_number kind)).head a) (st.part (kind_number kind)).heads h.0 h.1 in
      record {
        f = h.0;
        number = h.1;
        bytes = b;
        reads = ap read_fid_answer b ∙ fid-read h.0 ((row (kind_number kind)).rest a) (omega (arith, low, (S.good.part (kind_number kind)).few_heads, S.good.sizes.e));
      }

  -- The frequent id that was read is that of the head.
  same-lead : {a : Name} {st : State} (B : Begins a st) (x : FrequentId) → read_fid_answer stored ≡ Ok x
      → x ≡ record { value = B.f; length = length (fid B.f) }
  same-lead B x e = cc (sym e ∙ B.reads)

  pub bad-lead : (why : Refusal) → read_fid_answer stored ≡ Err why → LocatesEntry s pages lists (kind_number kind) stored (Err Unopened)
  bad-lead why e = record { range = refl; right = λ st a S p q old h. absurd (cc (sym e ∙ (begins st a S q old h).reads)) }

  module _ (x : FrequentId) (e : read_fid_answer stored ≡ Ok x) where
    -- The lookup of the head whose number was read.
    head-given : (st : State) (a : Name) → Stands s st pages lists → Begins a st → (r : Lookup) → Looked s (row (kind_number kind)).heads_at x.value pages lists r
        → Gives (some ((row (kind_number kind)).head a)) r
    head-given st a S B r look =
        let w : x.value ≡ B.f = ap (λ (y : FrequentId). y.value) (same-lead B x e) in
        let h : S.store.entries (row (kind_number kind)).heads_at x.value ≡ some ((row (kind_number kind)).head a) =
        rw w (head-entry s st pages lists S (kind_number kind) (kind-below kind) pair B.f ((row (kind_number kind)).head a) B.number) in
        rw h at (look.right S.store S.stored)

    -- No state has an entry whose head is missing, so an answer need only be within bounds.
    pub no-head : Looked s (row (kind_number kind)).heads_at x.value pages lists (Ok None) → (r : Result Pieces Refusal) → Bounded s pages (located r)
        → LocatesEntry s pages lists (kind_number kind) stored r
    no-head look r b = record { range = b; right = λ st a S p q old h. absurd (head-given st a S (begins st a S q old h) (Ok None) look) }

    pub located-pair : page_bytes s ≤ length pages → EntryIn s pages stored → (head rest : Bytes) (m : ℕ) → rest ≡ drop x.length stored
        → Looked s (row (kind_number kind)).heads_at x.value pages lists (Ok (Some head)) → Moved (row (kind_number kind)).way (length rest) m
        → (y : Pieces) → y.told ≡ record { kind = kind; first = length head + m; second = length rest - m } → pieces_in y ≡ head ++ rest
        → y.front.now ≡ head → stored_bytes y.back ≡ rest
        → LocatesEntry s pages lists (kind_number kind) stored (Ok y)
    located-pair there entry head rest m d look M y t b f g =
        let n = x.length in
        let low : m ≤ length rest = moved-le (row (kind_number kind)).way (length rest) m M in
        let l : length rest ≤ length stored = omega (arith, ap length d, length-drop n stored) in
        let i : y.told.first ≡ length head + m = ap (λ (z : Told). z.first) t in
        let j : y.told.second ≡ length rest - m = ap (λ (z : Told). z.second) t in
        record {
          range = record {
            front = rw f (looked-in s pages there _ _ lists head look).lies;
            back = rest-lies s pages stored entry.lies n (read_fits stored x e) _ (g ∙ d);
            small = omega (arith, look.inside, i, j, entry.small);
          };
          right = λ st a S p q old h.
              let B = begins st a S q old h in
              let w : length (fid B.f) ≡ n = sym (ap (λ (z : FrequentId). z.length) (same-lead B x e)) in
              let front : head ≡ (row (kind_number kind)).head a = head-given st a S B (Ok (Some head)) look in
              let back : rest ≡ (row (kind_number kind)).rest a = d ∙ ap (drop n) B.bytes ∙ drop_at (fid B.f) ((row (kind_number kind)).rest a) n w in
              let o = joined s a p (row (kind_number kind)).way (ap (λ (k : ℕ). (row k).way) q) pair m (rw back at M) in
              record {
                kind = ap (λ (z : Told). kind_number z.kind) t ∙ sym q;
                first = i ∙ ap (λ (z : Bytes). length z + m) front ∙ o.1;
                second = j ∙ ap (λ (z : Bytes). length z - m) back ∙ o.2;
                bytes = b ∙ rw (front, back) o.0;
              };
        }
