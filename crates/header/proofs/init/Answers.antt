-- The bytes set to zero have room for the header, and the stores are those that specs/ has.
use Rattle.std.proofs.Common.{ℕ, ◌+◌, ◌≤◌, ◌≡◌, ◌++◌, length, take, drop, replicate, arith}
use Rattle.std.proofs.lemmas.List.{length-replicate, length-take-le}
use Rattle.std.proofs.lemmas.List.Edits.{sets, sets-eq}
use Rattle.slices.specs.Bytes.{Bytes}
use Rattle.layout.specs.Sizes.{list_bytes}
use Rattle.header.specs.Opened.{opened_lists}
use Rattle.header.proofs.init.Goals as goal

-- A fill of the first n bytes is a run of n stores of 0.
filled : (l f : Bytes) (n m : ℕ) → n ≡ m → m ≤ length l → f ≡ replicate (length (take n l)) 0 → f ++ drop n l ≡ sets l 0 (replicate m 0)
filled l f n m q h e =
    let t : length (take m l) ≡ m = length-take-le m l h in
    let r : length {A = ℕ} (replicate m 0) ≡ m = length-replicate m 0 in
    let g : 0 + length {A = ℕ} (replicate m 0) ≤ length l = omega arith in
    let z : 0 + m ≡ m = omega arith in
    rw (sets-eq (replicate m 0) l 0 g, e, q, t, r, z)

pub returns : goal.returns
unfolding opened_lists
returns c =
    let z = filled c.args.lists.now c.fill.new.self c.list_bytes-n.result (list_bytes c.args.layout.now.sizes) c.list_bytes-n.ensures c.requires (c.fill.ensures.after (λ y e. e)) in
    cc
