-- The head gets the next number, and the key is the rest behind its lead. Assumes nothing.
use Rattle.std.proofs.Common.{◌≡◌, ℕ, ◌≤◌, ◌++◌, take, length, length-take, refl, sym, ap, subst, ◌∙◌, arith}
use Rattle.std.specs.Prelude.{Result, Ok}
use Rattle.std.proofs.lemmas.Result.{err_from_is_err_and}
use Rattle.slices.specs.Bytes.{Bytes}
use Rattle.fnv.specs.Fnv.{fnv_from, fnv_of}
use Rattle.fnv.proofs.Laws.{fnv-of-append}
use Rattle.ranked_pair_dictionary.specs.FrequentId.{fid}
use Rattle.ranked_pair_dictionary.proofs.Laws.{length-fid, further-le}
use Rattle.layout.specs.declared.Sizes.{Sizes}
use Rattle.layout.specs.Sizes.{InRange, limit, page_size}
use Rattle.layout.specs.Numbers.{kind_number, dictionary_number}
use Rattle.layout.proofs.Ranges.{limit-fits}
use Rattle.layout.proofs.Numbers.{kind-below}
use Rattle.refusals.specs.declared.Refusal.{Refusal}
use Rattle.bytes_index.specs.declared.Probe.{Probe}
use Rattle.bytes_index.specs.declared.Probe.TheVariants.{Free}
use Rattle.bytes_index.specs.Search.{Searched}
use Rattle.bytes_dictionary.proofs.Reading.{counted-by}
use Rattle.model.specs.Names.{entered}
use Rattle.model.specs.Kinds.{row}
use Rattle.model.proofs.Legal.{legal-shape}
use Rattle.names.specs.Given.{IsPair}
use Rattle.names.proofs.Pairs.{is-pair, rest-short}
use Rattle.search.proofs.Keys.{lead-paged, paged-fits}
use Rattle.enter.proofs.Named.{head_word, counted-head, uncounted, unsearched, occupied, adds-pair}
use Rattle.enter.proofs.add_pair.Goals as goal

-- ---- rest and lead

-- The key is the lead, then the rest.
key-is : (k f : ℕ) (first second lead rest head : Bytes) → lead ≡ fid f → IsPair k head rest (entered k first second)
    → fid f ++ (row k).rest (entered k first second) ≡ lead ++ rest
key-is k f first second lead rest head b i = λ j. sym b j ++ i.rested j

key-paged : (s : Sizes) (f : ℕ) (lead rest : Bytes) → InRange s → lead ≡ fid f → length rest ≤ limit s → length (lead ++ rest) ≤ page_size s
key-paged s f lead rest R b l = lead-paged s lead rest R (omega (arith, ap length b, length-fid f, further-le f)) l

head-paged : (s : Sizes) (first : Bytes) (n : ℕ) → InRange s → length first ≤ limit s → length (take n first) ≤ page_size s
head-paged s first n r l = simp length-take (omega (arith, limit-fits s r))

-- The hash of the lead, taken on over the rest, is that of the key.
pair-hash : (f g h : ℕ) (front rest : Bytes) → front ≡ fid f → g ≡ fnv_of (fid f) → h ≡ fnv_from g rest → h ≡ fnv_of (front ++ rest)
pair-hash f g h front rest b p q = q ∙ ap (λ (x : ℕ). fnv_from x rest) (p ∙ ap fnv_of (sym b)) ∙ sym (fnv-of-append front rest)

-- The search for the key was one for the lead and the rest, in the kind's own dictionary.
searched : (s : Sizes) (pages lists : Bytes) (k f : ℕ) (first second lead rest head : Bytes) (d : ℕ) (r : Result Probe Refusal) → d ≡ (row k).main_at → lead ≡ fid f
    → IsPair k head rest (entered k first second)
    → Searched s d pages lists (lead ++ rest) r
    → Searched s (row k).main_at pages lists (fid f ++ (row k).rest (entered k first second)) r
searched s pages lists k f first second lead rest head d r q b i e =
    subst (λ (y : Bytes). Searched s (row k).main_at pages lists y r) (sym (key-is k f first second lead rest head b i))
    (subst (λ (j : ℕ). Searched s j pages lists (lead ++ rest) r) q e)

-- ---- the answers

pub returns-in_err-f : goal.returns-in_err-f
returns-in_err-f c =
    let s = c.args.layout.now.sizes in
    let a = c.args.name.now in
    let lists = c.args.lists.now in
    let p = err_from_is_err_and c.from_residual.result c.from_residual.ensures.1 in
    rw (p.1, p.2)
    (uncounted s c.args.pages.now lists a c.args.x.now.place c.requires.place_ended.ended _
    (counted-head s lists (kind_number a.kind) _ _ c.of-row.ensures.heads_at c.in_err-f.ensures))

pub lead_of-lead-requires : goal.lead_of-lead-requires
lead_of-lead-requires c =
    let s = c.args.layout.now.sizes in
    let a = c.args.name.now in
    let lists = c.args.lists.now in
    let k = counted-by s (head_word lists (kind_number a.kind)) c.in_ok-f.f (counted-head s lists (kind_number a.kind) _ _ c.of-row.ensures.heads_at c.in_ok-f.ensures) in
    omega (arith, k.0, k.1, c.args.layout.now.in_range.e)

pub behind-key-requires-clause-hashed : goal.behind-key-requires-clause-hashed
behind-key-requires-clause-hashed c =
    rw c.raw.ensures.stored
    (pair-hash c.in_ok-f.f _ _ c.as_slice-2.result.now c.rest_behind-rest.result.now (c.as_slice-2.ensures ∙ c.lead_of-lead.ensures)
    (c.fnv.ensures ∙ ap fnv_of (c.as_slice.ensures ∙ c.lead_of-lead.ensures)) c.fnv_from-h.ensures)

pub behind-key-requires-clause-fits : goal.behind-key-requires-clause-fits
behind-key-requires-clause-fits c =
    let s = c.args.layout.now.sizes in
    let R = c.args.layout.now.in_range in
    let a = c.args.name.now in
    let l = rest-short (kind_number a.kind) a.first.now a.second.now _ c.head_length-n.result (limit s) c.rest_behind-rest.ensures (legal-shape _ _ c.requires.fit.1).size in
    rw c.raw.ensures.stored (paged-fits s _ R (key-paged s c.in_ok-f.f _ _ R (c.as_slice-2.ensures ∙ c.lead_of-lead.ensures) l))

pub returns-in_err-place : goal.returns-in_err-place
returns-in_err-place c =
    let s = c.args.layout.now.sizes in
    let a = c.args.name.now in
    let pages = c.args.pages.now in
    let lists = c.args.lists.now in
    let H = c.requires.place_ended.ended in
    let lead = c.as_slice-2.result.now in
    let rest = c.rest_behind-rest.result.now in
    let i = is-pair (kind_number a.kind) a.first.now a.second.now rest c.head_length-n.result (kind-below a.kind) H.paired c.head_length-n.ensures.0 c.rest_behind-rest.ensures _ refl in
    let p = err_from_is_err_and c.from_residual-in_err-place.result c.from_residual-in_err-place.ensures.1 in
    rw (p.1, p.2)
    (unsearched s pages lists a c.args.x.now.place H c.in_ok-f.f (counted-head s lists (kind_number a.kind) _ _ c.of-row.ensures.heads_at c.in_ok-f.ensures) _
    (searched s pages lists (kind_number a.kind) c.in_ok-f.f a.first.now a.second.now lead rest _ _ _ (ap dictionary_number c.behind-key.ensures.0 ∙ c.of-row.ensures.main_at)
    (c.as_slice-2.ensures ∙ c.lead_of-lead.ensures)
    i
    (rw (c.behind-key.ensures.1, c.raw.ensures.stored) at c.in_err-place.ensures)))

pub returns-in_default : goal.returns-in_default
returns-in_default c =
    let s = c.args.layout.now.sizes in
    let a = c.args.name.now in
    let pages = c.args.pages.now in
    let lists = c.args.lists.now in
    let H = c.requires.place_ended.ended in
    let lead = c.as_slice-2.result.now in
    let rest = c.rest_behind-rest.result.now in
    let i = is-pair (kind_number a.kind) a.first.now a.second.now rest c.head_length-n.result (kind-below a.kind) H.paired c.head_length-n.ensures.0 c.rest_behind-rest.ensures _ refl in
    occupied s pages lists a c.args.x.now.place H c.in_ok-f.f (counted-head s lists (kind_number a.kind) _ _ c.of-row.ensures.heads_at c.in_ok-f.ensures) _
    c.in_default.not-Free
    (searched s pages lists (kind_number a.kind) c.in_ok-f.f a.first.now a.second.now lead rest _ _ _ (ap dictionary_number c.behind-key.ensures.0 ∙ c.of-row.ensures.main_at)
    (c.as_slice-2.ensures ∙ c.lead_of-lead.ensures)
    i
    (rw (c.behind-key.ensures.1, c.raw.ensures.stored) at c.in_ok-place.ensures))

pub enter_name-requires-clause-paged : goal.enter_name-requires-clause-paged
enter_name-requires-clause-paged c =
    let s = c.args.layout.now.sizes in
    let R = c.args.layout.now.in_range in
    let a = c.args.name.now in
    let n = c.head_length-n.result in
    let z = (legal-shape _ _ c.requires.fit.1).size in
    let l = rest-short (kind_number a.kind) a.first.now a.second.now _ n (limit s) c.rest_behind-rest.ensures z in (
      head-paged s a.first.now n R (omega (arith, z)),
      rw (c.behind-key.ensures.1, c.raw.ensures.stored) (key-paged s c.in_ok-f.f _ _ R (c.as_slice-2.ensures ∙ c.lead_of-lead.ensures) l),
    )

pub returns : goal.returns
returns c =
    let s = c.args.layout.now.sizes in
    let a = c.args.name.now in
    let pages = c.args.pages.now in
    let lists = c.args.lists.now in
    let H = c.requires.place_ended.ended in
    let lead = c.as_slice-2.result.now in
    let rest = c.rest_behind-rest.result.now in
    let b : lead ≡ fid c.in_ok-f.f = c.as_slice-2.ensures ∙ c.lead_of-lead.ensures in
    let q : Searched s (dictionary_number c.behind-key.result.d) pages lists (lead ++ rest) (Ok (Free c.in-Free.place)) =
    rw (c.in-Free.is, c.behind-key.ensures.1, c.raw.ensures.stored) at c.in_ok-place.ensures in
    let i = is-pair (kind_number a.kind) a.first.now a.second.now rest c.head_length-n.result (kind-below a.kind) H.paired c.head_length-n.ensures.0 c.rest_behind-rest.ensures _ refl in
    adds-pair s pages lists a c.args.x.now.place H c.in_ok-f.f (counted-head s lists (kind_number a.kind) _ _ c.of-row.ensures.heads_at c.in_ok-f.ensures)
    c.args.layout.now.in_range c.requires.fit.0 _ _ refl refl refl refl (sym i.headed)
    (rw (c.behind-key.ensures.1, c.raw.ensures.stored) (key-is (kind_number a.kind) c.in_ok-f.f a.first.now a.second.now lead rest _ b i))
    (searched s pages lists (kind_number a.kind) c.in_ok-f.f a.first.now a.second.now lead rest _ _ _ (ap dictionary_number c.behind-key.ensures.0 ∙ c.of-row.ensures.main_at) b i q)
    _ _ _ c.enter_name.ensures
