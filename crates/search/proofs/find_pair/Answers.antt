-- The head is found and the rest is searched behind it, or the head is missing. Assumes nothing.
use Rattle.std.proofs.Common.{◌≡◌, ◌++◌, inl, refl, ◌∙◌}
use Rattle.std.specs.Prelude.{Ok}
use Rattle.layout.specs.Numbers.{kind_number}
use Rattle.ranked_pair_dictionary.specs.FrequentId.{fid}
use Rattle.bytes_index.specs.declared.Probe.TheVariants.{At, Free}
use Rattle.bytes_index.specs.Search.{Searched}
use Rattle.model.specs.Kinds.{row}
use Rattle.search.specs.Found.{key_behind}
use Rattle.search.proofs.Keys.{scanned-hash}
use Rattle.search.proofs.Ends.{key-ends, key-hashed}
use Rattle.search.proofs.find_pair.Goals as goal

pub find_head-requires : goal.find_head-requires
find_head-requires c = scanned-hash _ c.scan-x.result.h c.scan-x.ensures.0

pub returns-in-Ok-At-clause-ended : goal.returns-in-Ok-At-clause-ended
returns-in-Ok-At-clause-ended c =
    let a = c.args in
    let m = a.memory.now in
    let k = kind_number a.kind in
    let w : Searched m.lists.layout.sizes (row k).heads_at m.pages.now m.lists.bytes.now a.head.now (Ok (At c.in-Ok-At.f)) = rw c.in-Ok-At.field-0-is at c.in-Ok-At.ensures in
    let q : fid c.in-Ok-At.f ++ a.rest.now ≡ key_behind k c.in-Ok-At.f a.rest.now = rw c.requires.0 refl in
    key-ends _ _ _ k c.in-Ok-At.f a.head.now a.rest.now _ _ _ q (λ y. (w, refl)) c.find_behind.ensures.found

pub returns-in-Ok-At-clause-hashed : goal.returns-in-Ok-At-clause-hashed
returns-in-Ok-At-clause-hashed c =
    let a = c.args in
    let m = a.memory.now in
    let k = kind_number a.kind in
    let b = c.find_behind.ensures in
    let w : Searched m.lists.layout.sizes (row k).heads_at m.pages.now m.lists.bytes.now a.head.now (Ok (At c.in-Ok-At.f)) = rw c.in-Ok-At.field-0-is at c.in-Ok-At.ensures in
    let q : fid c.in-Ok-At.f ++ a.rest.now ≡ key_behind k c.in-Ok-At.f a.rest.now = rw c.requires.0 refl in
    key-hashed _ _ _ k c.in-Ok-At.f a.head.now a.rest.now _ _ c.find_behind.result _ q (λ y. (w, b.placed.0)) b.placed.1 b.found

pub returns-in-Ok-Free-clause-ended : goal.returns-in-Ok-Free-clause-ended
returns-in-Ok-Free-clause-ended c =
    let a = c.args in
    let m = a.memory.now in
    let k = kind_number a.kind in
    let w : Searched m.lists.layout.sizes (row k).heads_at m.pages.now m.lists.bytes.now a.head.now (Ok (Free c.in-Ok-Free.place)) = rw c.in-Ok-Free.field-0-is at c.in-Ok-Free.ensures in
    rw c.headless.ensures.0 (record { ended = record { paired = c.requires.0; searched = w }; hashed = scanned-hash _ _ c.scan-x.ensures.0 })

pub returns-in-Ok-Free-clause-hashed : goal.returns-in-Ok-Free-clause-hashed
returns-in-Ok-Free-clause-hashed c =
    let a = c.args in
    let m = a.memory.now in
    let k = kind_number a.kind in
    let w : Searched m.lists.layout.sizes (row k).heads_at m.pages.now m.lists.bytes.now a.head.now (Ok (Free c.in-Ok-Free.place)) = rw c.in-Ok-Free.field-0-is at c.in-Ok-Free.ensures in
    rw c.headless.ensures.0
    (record { ended = record { paired = c.requires.0; searched = w }; hashed = c.headless.ensures.1 ∙ scanned-hash _ _ c.scan-x.ensures.0 })

pub returns-in-Err-clause-ended : goal.returns-in-Err-clause-ended
returns-in-Err-clause-ended c = rw c.headless-in-Err.ensures.0 (inl (record { paired = c.requires.0; searched = c.in-Err.ensures }))

pub returns-in-Err-clause-hashed : goal.returns-in-Err-clause-hashed
returns-in-Err-clause-hashed c =
    let u = c.headless-in-Err.ensures in
    rw u.0 (inl (record { ended = record { paired = c.requires.0; searched = c.in-Err.ensures }; hashed = u.1 ∙ scanned-hash _ _ c.scan-x.ensures.0 }))
