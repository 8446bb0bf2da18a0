-- What was read of a place tells whether it is passed, and each return is an answer of the search.
use Rattle.std.specs.Prelude.{Option, Some, None, Result, Ok, Err}
use Rattle.std.proofs.lemmas.Result.{err_from_is_err_and}
use Rattle.std.proofs.Common.{length, ℕ, ◌+◌, ◌-◌, ◌*◌, ◌%◌, ◌≤◌, ◌<◌, ◌≡◌, ◌++◌, refl, sym, ◌∙◌, ap, subst, get_or, arith}
use borrow.Author.Count.{below_none, below_more}
use native.Mathlib.Nat.{mod-lt}
use Rattle.slices.specs.Bytes.{Bytes}
use Rattle.words.specs.Words.{word_at, quad_at}
use Rattle.fnv.specs.Fnv.{fnv_of}
use Rattle.parts.specs.Parts.{part_bytes}
use Rattle.layout.specs.declared.Sizes.{Sizes}
use Rattle.layout.specs.Sizes.{page_size}
use Rattle.layout.specs.Numbers.{dictionary_number}
use Rattle.layout.specs.Fields.{entry_at, place_at, dict_at, page_of, offset_of, size_of, named_by, top_of}
use Rattle.refusals.specs.declared.Refusal.{Refusal}
use Rattle.refusals.specs.declared.Refusal.TheVariants.{Unopened}
use Rattle.bytes_index.specs.declared.Probe.{Probe}
use Rattle.bytes_index.specs.Search.{HoldsEntries, Searched}
use Rattle.bytes_index.specs.Entries.{Entries, Addresses, Met, FreeAt}
use Rattle.bytes_index.specs.Field.{entry_bytes}
use Rattle.bytes_key.specs.KeyBytes.{bytes_in}
use Rattle.bytes_key.specs.Keys.{Agree, Agreeing, agreed}
use Rattle.bytes_key.proofs.Fronts.{front-facts}
use Rattle.bytes_index.proofs.Place.{place-zero, place-next}
use Rattle.bytes_index.proofs.Index.{place-passed, meets, hit, never-nothing, never-past, never-out, never-full, missed}
use Rattle.bytes_index.proofs.Stored.{field_in, field-why, not-front, not-all, all-bytes}
use Rattle.bytes_index.proofs.bytes_to_id.Goals as goal
use Rattle.bytes_index.proofs.bytes_to_id.Goals.{then-place-top+else-w-eq0+else-e-w+in_ok-stored+then-is_front+else-left-eq0+in_default, then-place-top+else-w-eq0+else-e-w+in_ok-stored+else-is_front, else-place-top}

-- The memory as functions.
abbrev B : Bytes → ℕ → ℕ
B pages a = get_or pages a 0

abbrev W : Bytes → Sizes → ℕ → ℕ → ℕ
W lists s d i = word_at lists (entry_at s d i)

abbrev Q : Bytes → Sizes → ℕ → ℕ → ℕ
Q lists s d j = quad_at lists (place_at s d j)

-- The place that was read, by where the places begin.
quad : (lists : Bytes) (s : Sizes) (d n j base q : ℕ) → n ≡ d → base ≡ dict_at s n → q ≡ quad_at lists (2 * (base + 2 * s.e) + j) → q ≡ Q lists s d j
quad lists s d n j base q f e p = p ∙ ap (λ (x : ℕ). quad_at lists (2 * (x + 2 * s.e) + j)) (e ∙ ap (dict_at s) f)

-- An entry that lies in one page is not refused.
never-bad : (s : Sizes) (pages : Bytes) (v : ℕ) (why : Refusal) → page_of v < s.n → offset_of v + size_of v ≤ page_size s → entry_bytes s pages v ≡ Err why → ⊥
never-bad s pages v why p q f =
    let g : entry_bytes s pages v ≡ Ok _ = field_in s pages v p q in
    let z : ◌≡◌ {A = ℕ} 0 1 = cc in
    omega arith

-- A search that refuses, in memory that holds no entries.
refused : (s : Sizes) (d : ℕ) (pages lists key : Bytes) (r : Result Probe Refusal) (why : Refusal) → r ≡ Err why → why ≡ Unopened
    → ((es : Entries) → HoldsEntries s d pages lists es → ⊥) → Searched s d pages lists key r
refused s d pages lists key r why e u n = rw e record { range = u; went = tt; right = n }

-- A comparison that found a difference.
none-agree : (stored rest : Bytes) (end left : ℕ) (r : Option ℕ) → ((n : ℕ) → r ≡ Some n → ⊥) → Agreeing stored end rest left (agreed r) → Agree stored end rest 0 (length rest) → ⊥
none-agree stored rest end left None f A = A.differ refl
none-agree stored rest end left (Some n) f A = absurd (f n refl)

pub probe-init : goal.probe-init
probe-init c =
    let a = c.args in
    let L = a.memory.now.lists in
    let h = fnv_of (bytes_in a.key.now) in
    let m = 2 * L.layout.sizes.e in
    let e : c.start-j.result ≡ h % m = c.start-j.ensures ∙ ap (λ (x : ℕ). x % m) c.args.key.now.hashed in
    record {
      steps = omega arith;
      place = rw e (mod-lt h (omega (arith, L.layout.in_range.e)));
      here = place-zero m h ∙ sym e;
      passed = below_none _;
    }

pub returns-then-t-m : goal.returns-then-t-m
returns-then-t-m c =
    let a = c.args in
    let L = a.memory.now.lists in
    let s = L.layout.sizes in
    let d = dictionary_number a.key.now.d in
    let e = L.layout.in_range.e in
    (refused s d _ _ _ _ _ refl refl
    (λ es H.
    never-full s (B a.memory.now.pages.now) (W L.bytes.now s d) (Q L.bytes.now s d) es H e.1 e.0 _
    (λ k l. (c.probe.invariant.passed k (omega arith)).0)))

pub returns-then-q-eq0 : goal.returns-then-q-eq0
returns-then-q-eq0 c =
    let a = c.args in
    let L = a.memory.now.lists in
    let s = L.layout.sizes in
    let d = dictionary_number a.key.now.d in
    let p = c.probe.invariant in
    let q = Q L.bytes.now s d in
    let r = quad _ s d _ c.probe.j _ _ c.from.ensures.0 c.dict_at.ensures c.number_at-q.ensures in
    let f : FreeAt q (2 * s.e) (fnv_of (bytes_in a.key.now)) c.probe.j =
    record { step = c.probe.t; near = omega arith; here = p.here; empty = sym r ∙ c.if-q-eq0.true; full = λ k l. (p.passed k l).0 } in
    record {
      range = p.place;
      went = f;
      right = λ es H. missed s (B a.memory.now.pages.now) (W L.bytes.now s d) q es H L.layout.in_range.e.1 _ c.probe.j f p.passed;
    }

pub returns-then-w-eq0 : goal.returns-then-w-eq0
returns-then-w-eq0 c =
    let a = c.args in
    let L = a.memory.now.lists in
    let s = L.layout.sizes in
    let d = dictionary_number a.key.now.d in
    let r = quad _ s d _ c.probe.j _ _ c.from.ensures.0 c.dict_at.ensures c.number_at-q.ensures in
    (refused s d _ _ _ _ _ refl refl
    (λ es H.
    never-nothing s (B a.memory.now.pages.now) (W L.bytes.now s d) (Q L.bytes.now s d) es H L.layout.in_range.e.1
    c.probe.j c.probe.invariant.place (λ y. c.if-q-eq0.false (r ∙ y)) (ap named_by (sym r) ∙ sym c.from-place.ensures.0 ∙ c.if-w-eq0.true)))

pub returns-then-e-w : goal.returns-then-e-w
returns-then-e-w c =
    let a = c.args in
    let L = a.memory.now.lists in
    let s = L.layout.sizes in
    let d = dictionary_number a.key.now.d in
    let r = quad _ s d _ c.probe.j _ _ c.from.ensures.0 c.dict_at.ensures c.number_at-q.ensures in
    (refused s d _ _ _ _ _ refl refl
    (λ es H.
    never-past s (B a.memory.now.pages.now) (W L.bytes.now s d) (Q L.bytes.now s d) es H L.layout.in_range.e.1
    c.probe.j c.probe.invariant.place (λ y. c.if-q-eq0.false (r ∙ y)) (subst (λ (x : ℕ). s.e < named_by x) r (subst (λ (x : ℕ). s.e < x) c.from-place.ensures.0 c.if-e-w.true))))

pub returns-in_err-stored : goal.returns-in_err-stored
returns-in_err-stored c =
    let a = c.args in
    let L = a.memory.now.lists in
    let s = L.layout.sizes in
    let d = dictionary_number a.key.now.d in
    let b = a.memory.now.pages.now in
    let w = W L.bytes.now s d in
    let r = quad _ s d _ c.probe.j _ _ c.from.ensures.0 c.dict_at.ensures c.number_at-q.ensures in
    let f = err_from_is_err_and c.from_residual.result c.from_residual.ensures.1 in
    (refused s d _ _ _ _ _ f.1 (f.2 ∙ field-why s b _ _ (sym c.in_err-stored.ensures))
    (λ es H.
    let o =
    never-out s (B b) w (Q L.bytes.now s d) es H L.layout.in_range.e.1
    c.probe.j c.probe.invariant.place (λ y. c.if-q-eq0.false (r ∙ y)) in
    never-bad s b _ _ o.0 o.1
    (ap (λ (x : ℕ). entry_bytes s b (w (named_by x - 1))) (sym r) ∙ ap (λ (x : ℕ). entry_bytes s b (w (x - 1))) (sym c.from-place.ensures.0) ∙ sym c.in_err-stored.ensures)))

pub agreeing-requires : goal.agreeing-requires
agreeing-requires c =
    let z = front-facts _ _ _ (sym c.if-is_front.ensures) in
    (omega arith, c.loop-left.invariant.within, omega (arith, z.0))

pub probe-preserved : goal.probe-preserved
probe-preserved c =
    let a = c.args in
    let L = a.memory.now.lists in
    let s = L.layout.sizes in
    let d = dictionary_number a.key.now.d in
    let p = c.probe.invariant in
    let key = bytes_in a.key.now in
    let b = a.memory.now.pages.now in
    let w = W L.bytes.now s d in
    let q = c.number_at-q.result in
    let r = quad _ s d _ c.probe.j _ _ c.from.ensures.0 c.dict_at.ensures c.number_at-q.ensures in
    let top = c.top_bits-top.ensures.0 ∙ ap top_of c.args.key.now.hashed in
    let front = part_bytes c.new-front.result.part in
    let rest = part_bytes c.new-rest.result.part in
    let whole : front ++ rest ≡ key = λ i. c.new-front.ensures i ++ c.new-rest.ensures i in
    let v = w (c.from-place.result.entry - 1) in
    let n : top_of q ≡ top_of (fnv_of key) → Addresses s (B b) (w (named_by q - 1)) key → ⊥ =
    elim c.if-place-top.branch [
      | then-place-top+else-w-eq0+else-e-w+in_ok-stored+then-is_front+else-left-eq0+in_default x ↦ λ e.
          subst (λ (y : ℕ). Addresses s (B b) (w (y - 1)) key → ⊥) c.from-place.ensures.0
          (not-all s b v x.in_ok-stored.stored.now front rest key whole (sym x.in_ok-stored.ensures) a.memory.now.fit
          (rw c.new-rest.result.measured at (sym x.if-is_front.ensures)) (none-agree _ _ _ _ _ x.in_default.not-Some x.agreeing.ensures.agreeing))
      | then-place-top+else-w-eq0+else-e-w+in_ok-stored+else-is_front x ↦ λ e.
          subst (λ (y : ℕ). Addresses s (B b) (w (y - 1)) key → ⊥) c.from-place.ensures.0
          (not-front s b v x.in_ok-stored.stored.now front rest key whole (sym x.in_ok-stored.ensures) a.memory.now.fit
          (rw c.new-rest.result.measured at (sym x.if-is_front.ensures)))
      | else-place-top x ↦ λ e. absurd (x.if-place-top.false (c.from-place.ensures.1 ∙ e ∙ sym top))
    ] in
    record {
      steps = omega arith;
      place = rw c.up-j.ensures (mod-lt (c.probe.j + 1) (omega arith));
      here = place-next (2 * s.e) (fnv_of key) c.probe.t ∙ rw p.here (sym c.up-j.ensures);
      passed = below_more _ _ p.passed
          (place-passed s (B b) w (Q L.bytes.now s d) key (2 * s.e) (fnv_of key) c.probe.t c.probe.j q p.here r c.if-q-eq0.false n);
    }

pub returns : goal.returns
returns c =
    let a = c.args in
    let L = a.memory.now.lists in
    let s = L.layout.sizes in
    let d = dictionary_number a.key.now.d in
    let p = c.probe.invariant in
    let key = bytes_in a.key.now in
    let b = a.memory.now.pages.now in
    let w = W L.bytes.now s d in
    let q = Q L.bytes.now s d in
    let r = quad _ s d _ c.probe.j _ _ c.from.ensures.0 c.dict_at.ensures c.number_at-q.ensures in
    let top = c.top_bits-top.ensures.0 ∙ ap top_of c.args.key.now.hashed in
    let i = c.from-place.result.entry - 1 in
    let front = part_bytes c.new-front.result.part in
    let rest = part_bytes c.new-rest.result.part in
    let whole : front ++ rest ≡ key = λ i. c.new-front.ensures i ++ c.new-rest.ensures i in
    let M : Met q (2 * s.e) (fnv_of key) i =
    subst (λ (x : ℕ). Met q (2 * s.e) (fnv_of key) (x - 1)) (sym c.from-place.ensures.0)
    (meets s (B b) w q key (2 * s.e) c.probe.t c.probe.j c.number_at-q.result (omega arith) p.here r (sym c.from-place.ensures.1 ∙ c.if-place-top.true ∙ top)
    (λ y. c.if-w-eq0.false (c.from-place.ensures.0 ∙ y)) p.passed) in
    let S : Addresses s (B b) (w i) key =
    all-bytes s b (w i) c.in_ok-stored.stored.now front rest key whole (sym c.in_ok-stored.ensures) a.memory.now.fit (rw c.new-rest.result.measured at (sym c.if-is_front.ensures))
    (λ j y u. c.loop-left.invariant.equal j (omega arith) (omega (arith, c.new-rest.result.measured))) in
    record {
      range = omega arith;
      went = (M, S);
      right = λ es H. hit s (B b) w q es H L.layout.in_range.e.1 i key (omega arith) M S;
    }
