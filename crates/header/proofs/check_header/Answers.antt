-- Each answer is that of `header_of`: what is always refused, a foreign format, or a dictionary's header.
use Rattle.std.proofs.Common.{Bool, ◌≡◌, ◌&&◌, true, false, length, sym, ap, ◌∙◌, inl, inr, leb, arith}
use Rattle.std.specs.Prelude.{Option, Some, None, Ok, Err, Result, is_some, IfSome, IfOk}
use Rattle.std.specs.Option.{ok_or}
use Rattle.std.proofs.lemmas.Bool.{leb-true, leb-false}
use Rattle.std.proofs.lemmas.Result.{err_from_is_err_and}
use Rattle.slices.specs.Bytes.{Bytes}
use Rattle.slices.proofs.Tests.{Split, split, and_left, and_right}
use Rattle.words.specs.Words.{word_at}
use Rattle.layout.specs.declared.Sizes.{Sizes}
use Rattle.layout.specs.declared.lent.Layout.{Layout}
use Rattle.layout.specs.declared.lent.Memory.{Memory}
use Rattle.layout.specs.Sizes.{in_range, made, page_bytes, list_bytes}
use Rattle.layout.specs.Fields.{format}
use Rattle.layout.specs.Laid.{laid}
use Rattle.layout.proofs.Ranges.{made-fit, made-bad}
use Rattle.refusals.specs.declared.Refusal.{Refusal}
use Rattle.refusals.specs.declared.Refusal.TheVariants.{Unopened}
use Rattle.header.specs.Header.{sizes_in, sized, header_of, out_of_range, short-pages, short-lists, under-512}
use Rattle.header.proofs.Opening.{unformatted, always, passes}
use Rattle.header.proofs.check_header.Goals as goal

-- The sizes were made of those that lists has.
fit : (lists : Bytes) {o : Option Layout} {x : Layout} → o ≡ Some x → laid o ≡ made (sizes_in lists) → (sizes_in lists ≡ x.sizes) × (in_range x.sizes ≡ true)
fit lists {o} {x} h e = let q = made-fit (sizes_in lists) x.sizes (sym e ∙ ap laid h) in (q.0, ap in_range (sym q.0) ∙ q.1)

refused : (x : Refusal) (o : Option Layout) → Err x ≡ ok_or o Unopened → o ≡ None → x ≡ Unopened
refused x o e n = let v : ◌≡◌ {A = Result Layout Refusal} (Err x) (Err Unopened) = e ∙ ap (λ (y : Option Layout). ok_or y Unopened) n in cc

if_some : (o : Option Memory) (P Q : Memory → Type 0) → ((m : Memory) → P m → Q m) → IfSome o P → IfSome o Q
if_some (Some m) P Q f h = f m h
if_some None P Q f h = tt

if_ok : (o : Option Memory) (P : Memory → Type 0) → IfSome o P → IfOk (ok_or o Unopened) P
if_ok (Some m) P h = h
if_ok None P h = tt

-- A memory is made of slices that are long enough.
abbrev Long : Sizes → Bytes → Bytes → Bool
Long s pages lists = leb (page_bytes s) (length pages) && leb (list_bytes s) (length lists)

-- The sizes have a dictionary's header, so what is made of the slices is what the check of their lengths gives.
memory : (s : Sizes) (pages lists : Bytes) (o : Option Memory) → word_at lists 0 ≡ format → sizes_in lists ≡ s → in_range s ≡ true
    → is_some o ≡ Long s pages lists
    → IfSome o (λ m. m.lists.layout.sizes ≡ s)
    → sized (ok_or o Unopened) ≡ header_of (length pages) lists
memory s pages lists (Some m) f q r e g =
    ap Ok g ∙ sym (passes s pages lists record {
      format-is = f;
      sizes-are = q;
      ranged = r;
      pages-fit = leb-true _ _ (and_left _ _ (sym e));
      lists-fit = leb-true _ _ (and_right (leb (page_bytes s) (length pages)) _ (sym e));
    })
memory s pages lists None f q r e g = go (split (leb (page_bytes s) (length pages)))
  where
    go : Split (leb (page_bytes s) (length pages)) → sized (Err Unopened) ≡ header_of (length pages) lists
    go (inl p) =
        let z : false ≡ leb (list_bytes s) (length lists) = rw p at e in
        let l = leb-false _ _ (sym z) in
        sym (always pages lists (short-lists (omega (arith, ap list_bytes q, l))))
    go (inr p) =
        let l = leb-false _ _ p in
        sym (always pages lists (short-pages (omega (arith, ap page_bytes q, l))))

pub returns-then-lists-lt512-clause-sized : goal.returns-then-lists-lt512-clause-sized
returns-then-lists-lt512-clause-sized c = sym (always c.args.pages.now c.args.lists.now (under-512 c.if-lists-lt512.true))

pub returns-then-number_at-ne-FORMAT-clause-sized : goal.returns-then-number_at-ne-FORMAT-clause-sized
returns-then-number_at-ne-FORMAT-clause-sized c = sym (unformatted _ c.args.lists.now (λ e. c.if-number_at-ne-FORMAT.true (c.number_at.ensures ∙ e)))

pub returns-in_err-layout-clause-sized : goal.returns-in_err-layout-clause-sized
returns-in_err-layout-clause-sized c =
    let m : made (sizes_in c.args.lists.now) ≡ laid c.new-made.result = cc in
    let p = err_from_is_err_and c.from_residual.result c.from_residual.ensures.1 in
    let v = refused c.in_err-layout.field-0.0 c.new-made.result c.in_err-layout.ensures.value c.in_err-layout.ensures.ok_part in
    rw (p.1, p.2, v) (sym (always c.args.pages.now _ (out_of_range (made-bad _ (m ∙ ap laid c.in_err-layout.ensures.ok_part)))))

pub returns-in_err-layout-clause-given : goal.returns-in_err-layout-clause-given
returns-in_err-layout-clause-given c = let p = err_from_is_err_and c.from_residual.result c.from_residual.ensures.1 in rw p.1 tt

pub returns-clause-sized : goal.returns-clause-sized
returns-clause-sized c =
    let f = fit c.args.lists.now c.in_ok-layout.ensures.ok_part cc in
    let g = c.new.ensures.given in
    rw c.ok_or-2.ensures.value
    (memory c.in_ok-layout.layout.sizes c.args.pages.now c.args.lists.now c.new.result (sym c.number_at.ensures ∙ c.if-number_at-ne-FORMAT.false) f.0 f.1 c.new.ensures.fit
    (if_some c.new.result _ _ (λ m h. h.0) g))

pub returns-clause-given : goal.returns-clause-given
returns-clause-given c = rw c.ok_or-2.ensures.value (if_ok c.new.result _ (if_some c.new.result _ _ (λ m h. (h.1, h.2)) c.new.ensures.given))
