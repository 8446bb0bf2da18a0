-- The word taken apart, and each number's range.
use Rattle.std.specs.Prelude.{Ok, Err}
use Rattle.std.proofs.Common.{ℕ, ◌+◌, ◌*◌, ◌≤◌, ◌<◌, ◌≡◌, refl, sym, subst, arith}
use Rattle.layout.specs.declared.Sizes.{Sizes}
use Rattle.layout.specs.Sizes.{page_size, page_bytes}
use Rattle.layout.specs.Fields.{page_of, offset_of, size_of}
use Rattle.layout.proofs.Ranges.{in-pages}
use Rattle.refusals.specs.declared.Refusal.TheVariants.{Unopened}
use Rattle.bytes_index.specs.Field.{SpanOf}
use Rattle.bytes_index.proofs.Spans.{span_in, span-bad}
use Rattle.bytes_index.proofs.entry_span.Goals as goal

-- The word that was read, v, is the entry's, w.
bad : (s : Sizes) (v w : ℕ) → v ≡ w → (page_of v < s.n → offset_of v + size_of v ≤ page_size s → ⊥) → SpanOf s w (Err Unopened)
bad s v w e h = subst (λ (x : ℕ). SpanOf s x (Err Unopened)) e record { field = sym (span-bad s v h); inside = refl }

regroup : (a b c t : ℕ) → a + (b + c) ≤ t → a + b + c ≤ t
regroup a b c t l = omega arith

good : (s : Sizes) (v w page offset len size : ℕ) → v ≡ w → page ≡ page_of v → offset ≡ offset_of v → len ≡ size_of v → size ≡ page_size s
    → page < s.n → offset + len ≤ size
    → SpanOf s w (Ok (record { at = page * size + offset; len = len }))
good s v w page offset len size e p o l q h m =
    let m' : offset_of v + size_of v ≤ page_size s = omega arith in
    let h' : page_of v < s.n = omega arith in
    rw (p, o, l, q) (subst (λ (x : ℕ). SpanOf s x (Ok (record { at = page_of v * page_size s + offset_of v; len = size_of v }))) e record {
      field = sym (span_in s v h' m');
      inside = regroup (page_of v * page_size s) (offset_of v) (size_of v) (page_bytes s) (in-pages s (page_of v) (offset_of v + size_of v) h' m');
    })

pub returns-then-layout-lies : goal.returns-then-layout-lies
returns-then-layout-lies c =
    let l = c.from-lies.ensures in
    rw (← c.from.ensures.0, ← c.dict_at-at.ensures) (bad _ _ _ c.number_at.ensures (λ p q. omega (arith, l.0)))

pub returns-then-size-lies : goal.returns-then-size-lies
returns-then-size-lies c =
    let l = c.from-lies.ensures in
    rw (← c.from.ensures.0, ← c.dict_at-at.ensures) (bad _ _ _ c.number_at.ensures (λ p q. omega (arith, l.1, l.2)))

pub returns : goal.returns
returns c =
    let l = c.from-lies.ensures in
    let s = c.args.lists.now.layout.sizes in
    rw (← c.from.ensures.0, ← c.dict_at-at.ensures)
    (good s c.number_at.result _ c.from-lies.result.page c.from-lies.result.offset c.from-lies.result.len c.page_size-size.result
    c.number_at.ensures l.0 l.1 l.2 c.page_size-size.ensures (omega arith) (omega arith))
