-- The key is a string behind its tag, or a rest behind the lead of its head. Assumes nothing.
use Rattle.std.proofs.Common.{◌≡◌, ℕ, ◌≤◌, ◌<◌, true, false, ◌++◌, length, refl, sym, ap, ◌∙◌, arith}
use Rattle.std.proofs.Math.Option.{none}
use Rattle.slices.specs.Bytes.{Bytes}
use Rattle.fnv.specs.Fnv.{fnv_of}
use Rattle.ranked_pair_dictionary.specs.FrequentId.{fid}
use Rattle.ranked_pair_dictionary.proofs.Laws.{length-fid, further-le}
use Rattle.parts.specs.Parts.{bytes_of}
use Rattle.bytes_key.specs.KeyBytes.{bytes_in}
use Rattle.layout.specs.declared.Sizes.{Sizes}
use Rattle.layout.specs.Numbers.{kind_number}
use Rattle.layout.proofs.Numbers.{kind-below}
use Rattle.layout.specs.Sizes.{InRange, limit, page_size, kinds}
use Rattle.model.specs.Names.{entered}
use Rattle.model.specs.Kinds.{has_heads, row}
use Rattle.model.specs.Steps.{shape_refusal}
use Rattle.model.proofs.Legal.{legal-shape}
use Rattle.kind_table.specs.Rows.{front_mode}
use Rattle.names.specs.Given.{given, head_size, rest_behind}
use Rattle.names.proofs.Second.{shape-second}
use Rattle.names.proofs.Pairs.{is-pair, rest-short}
use Rattle.search.specs.Found.{key_behind}
use Rattle.search.proofs.Keys.{raw-rest, string-key, string-paged, lead-paged, paged-fits}
use Rattle.enter.proofs.Named.{adds-key}
use Rattle.enter.proofs.add_str.Goals as goal
use Rattle.enter.proofs.add_str.Goals.{then-has_heads, else-has_heads}

-- ---- a string

string-is : (s : Sizes) (k f : ℕ) (first second : Bytes) → shape_refusal s (entered k first second) ≡ none → (row k).paired ≡ false
    → key_behind k f ((row k).rest (entered k first second)) ≡ bytes_of (front_mode (row k).way) second ++ first
string-is s k f first second shape e = rw e (string-key k first second e (shape-second s (entered k first second) shape) ∙ raw-rest (front_mode (row k).way) second first)

-- ---- a rest behind the lead of its head

lead_is : (k f n : ℕ) (first second lead rest : Bytes) → k < kinds → (row k).paired ≡ true → lead ≡ fid f → n ≡ head_size k first → rest ≡ rest_behind n k first second
    → key_behind k f ((row k).rest (entered k first second)) ≡ lead ++ rest
lead_is k f n first second lead rest l p b e r =
    let i = is-pair k first second rest n l p e r _ refl in
    rw p (λ j. sym b j ++ i.rested j)

-- It fits a page.
lead-short : (s : Sizes) (f : ℕ) (lead rest : Bytes) → InRange s → lead ≡ fid f → length rest ≤ limit s → length (lead ++ rest) ≤ page_size s
lead-short s f lead rest R b l = lead-paged s lead rest R (omega (arith, ap length b, length-fid f, further-le f)) l

-- ---- the key is the one that was searched

pub behind-key-requires-else-has_heads-clause-hashed : goal.behind-key-requires-else-has_heads-clause-hashed
behind-key-requires-else-has_heads-clause-hashed c =
    let n = c.args.name.now in
    let K = c.requires.place_ended in
    let p = sym (c.if-has_heads.ensures ∙ ap has_heads c.of-row.ensures.way) in
    rw c.front.ensures (K.hashed ∙ ap fnv_of (string-is c.args.layout.now.sizes (kind_number n.kind) K.ended.f n.first.now n.second.now c.requires.fit.1 p))

pub behind-key-requires-else-has_heads-clause-fits : goal.behind-key-requires-else-has_heads-clause-fits
unfolding bytes_of
behind-key-requires-else-has_heads-clause-fits c =
    let L = c.args.layout.now in
    let n = c.args.name.now in
    rw c.front.ensures
    (paged-fits L.sizes _ L.in_range
    (string-paged L.sizes (front_mode (row (kind_number n.kind)).way) n.second.now n.first.now L.in_range (omega (arith, (legal-shape _ _ c.requires.fit.1).size))))

pub enter_name-requires-clause-paged : goal.enter_name-requires-clause-paged
unfolding bytes_of
enter_name-requires-clause-paged c =
    let L = c.args.layout.now in
    let s = L.sizes in
    let n = c.args.name.now in
    let k = kind_number n.kind in
    let K = c.requires.place_ended in
    let z = (legal-shape _ _ c.requires.fit.1).size in
    let l : length (bytes_in c.if-has_heads.key) ≤ page_size s = elim c.if-has_heads.branch [
      | then-has_heads w ↦
          let p = sym (w.if-has_heads.ensures ∙ ap has_heads c.of-row.ensures.way) in
          let m = rest-short k n.first.now n.second.now _ w.head_length.result (limit s) w.rest_behind-rest.ensures z in
          rw (w.key-is, w.behind-key.ensures.1, w.raw.ensures.stored) (lead-short s K.ended.f _ _ L.in_range (w.as_slice.ensures ∙ K.lead p) m)
      | else-has_heads w ↦
          rw (w.key-is, w.behind-key-else-has_heads.ensures.1, w.front.ensures) (string-paged s (front_mode (row k).way) n.second.now n.first.now L.in_range (omega (arith, z)))
    ] in
    (omega arith, l)

pub returns : goal.returns
returns c =
    let s = c.args.layout.now.sizes in
    let a = c.args.name.now in
    let k = kind_number a.kind in
    let K = c.requires.place_ended in
    let e : key_behind k K.ended.f ((row k).rest (given a)) ≡ bytes_in c.if-has_heads.key = elim c.if-has_heads.branch [
      | then-has_heads w ↦
          let p = sym (w.if-has_heads.ensures ∙ ap has_heads c.of-row.ensures.way) in
          rw (w.key-is, w.behind-key.ensures.1, w.raw.ensures.stored)
          (lead_is k K.ended.f _ a.first.now a.second.now _ _ (kind-below a.kind) p (w.as_slice.ensures ∙ K.lead p) w.head_length.ensures.0 w.rest_behind-rest.ensures)
      | else-has_heads w ↦
          let p = sym (w.if-has_heads.ensures ∙ ap has_heads c.of-row.ensures.way) in
          rw (w.key-is, w.behind-key-else-has_heads.ensures.1, w.front.ensures) (string-is s k K.ended.f a.first.now a.second.now c.requires.fit.1 p)
    ] in
    adds-key s c.args.pages.now c.args.lists.now a c.args.layout.now.in_range c.requires.fit.0 _ refl refl K.ended e _ _ _ c.enter_name.ensures
