-- Each answer is that of `spot_of` over the two words read, and lies in the pages.
use Rattle.std.proofs.Common.{ℕ, ◌-◌, ◌≡◌, refl, sym, subst, ◌∙◌, arith}
use Rattle.words.specs.Words.{word_at}
use Rattle.layout.specs.declared.Sizes.{Sizes}
use Rattle.layout.specs.Fields.{current_at, page_at}
use Rattle.layout.proofs.Ranges.{page-size}
use Rattle.bytes_buffer.specs.Spots.{spot_of, spot_in, InPages}
use Rattle.bytes_buffer.proofs.Spots.{next-in, spot-first, spot-foreign, spot-overfull, spot-current, spot-next}
use Rattle.bytes_buffer.proofs.plan.Goals as goal

-- The two words read are those that `spot_in` names. m is the dictionary's number as read.
read : (s : Sizes) (W : ℕ → ℕ) (d u n m r w : ℕ) → m ≡ d → r ≡ W (current_at m) → w ≡ W (page_at (r - 1)) → spot_of s r w u n ≡ spot_in s W d u n
unfolding spot_in
read s W d u n m r w i e f = cc

pub returns-then-current-eq0-clause-spot : goal.returns-then-current-eq0-clause-spot
returns-then-current-eq0-clause-spot c =
    let a = c.args in
    let s = a.lists.now.layout.sizes in
    c.next.ensures ∙ sym (spot-first s c.number_at-current.result _ a.untaken a.len c.if-current-eq0.true)
    ∙ read s (word_at a.lists.now.bytes.now) _ _ _ _ _ _ c.from.ensures.0 c.number_at-current.ensures refl

pub returns-then-current-eq0-clause-in_pages : goal.returns-then-current-eq0-clause-in_pages
returns-then-current-eq0-clause-in_pages c =
    let a = c.args in
    let s = a.lists.now.layout.sizes in
    subst (InPages s a.untaken a.len) (sym c.next.ensures) (next-in s a.untaken a.len)

pub returns-then-n-current-clause-spot : goal.returns-then-n-current-clause-spot
returns-then-n-current-clause-spot c =
    let a = c.args in
    let s = a.lists.now.layout.sizes in
    sym (spot-foreign s c.number_at-current.result _ a.untaken a.len c.if-n-current.true)
    ∙ read s (word_at a.lists.now.bytes.now) _ _ _ _ _ _ c.from.ensures.0 c.number_at-current.ensures refl

pub returns-then-size-used-clause-spot : goal.returns-then-size-used-clause-spot
returns-then-size-used-clause-spot c =
    let a = c.args in
    let s = a.lists.now.layout.sizes in
    sym (spot-overfull s c.number_at-current.result c.number_at.result a.untaken a.len c.if-current-eq0.false c.if-n-current.false (omega arith))
    ∙ read s (word_at a.lists.now.bytes.now) _ _ _ _ _ _ c.from.ensures.0 c.number_at-current.ensures c.number_at.ensures

pub overflow_add-used : goal.overflow_add-used
overflow_add-used c = omega (arith, page-size _ c.args.lists.now.layout.in_range)

pub returns-then-used-len-clause-spot : goal.returns-then-used-len-clause-spot
returns-then-used-len-clause-spot c =
    let a = c.args in
    let s = a.lists.now.layout.sizes in
    rw c.from-used.ensures.1
    (sym (spot-current s c.number_at-current.result c.number_at.result a.untaken a.len c.if-current-eq0.false c.if-n-current.false (omega arith))
    ∙ read s (word_at a.lists.now.bytes.now) _ _ _ _ _ _ c.from.ensures.0 c.number_at-current.ensures c.number_at.ensures)

pub returns-clause-spot : goal.returns-clause-spot
returns-clause-spot c =
    let a = c.args in
    let s = a.lists.now.layout.sizes in
    c.next-2.ensures
    ∙ sym (spot-next s c.number_at-current.result c.number_at.result a.untaken a.len c.if-current-eq0.false c.if-n-current.false (omega arith) (omega arith))
    ∙ read s (word_at a.lists.now.bytes.now) _ _ _ _ _ _ c.from.ensures.0 c.number_at-current.ensures c.number_at.ensures

pub returns-clause-in_pages : goal.returns-clause-in_pages
returns-clause-in_pages c =
    let a = c.args in
    let s = a.lists.now.layout.sizes in
    subst (InPages s a.untaken a.len) (sym c.next-2.ensures) (next-in s a.untaken a.len)
