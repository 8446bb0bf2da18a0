-- The eight bytes are the N bytes of the number and zeros behind them.
use Rattle.std.proofs.Common.{arith, ◌∙◌, ◌≡◌, ◌+◌, ◌-◌, ◌≤◌, ◌<◌, ℕ, length, get_or, take, drop, replicate, ◌++◌}
use Rattle.std.proofs.lemmas.List.{get_or-append_right}
use Rattle.std.proofs.lemmas.Grind.{common_steps}
use Rattle.slices.specs.Bytes.{Bytes}
use Rattle.words.proofs.Laws.{read-eight, le-short}
use Rattle.words.proofs.number_from.Goals as goal

abbrev zeros : ℕ → Bytes
zeros n = drop n (replicate 8 0)

first : (n b k : ℕ) (s ys : Bytes) → b + n ≤ length s → ys ≡ take (b + n - b) (drop b s) → k < n → get_or (ys ++ zeros n) (0 + k) 0 ≡ get_or s (b + k) 0
first n b k s ys f e h = grind (arith, common_steps)

zero : (n k : ℕ) → n + k < 8 → get_or {A = ℕ} (zeros n) k 0 ≡ 0
zero n k h = grind (arith, common_steps)

rest : (n b k : ℕ) (s ys : Bytes) → b + n ≤ length s → ys ≡ take (b + n - b) (drop b s) → n ≤ k → k < 8 → get_or {A = ℕ} (ys ++ zeros n) (0 + k) 0 ≡ 0
rest n b k s ys f e g h =
    let l : length ys ≡ n = grind (arith, common_steps) in
    get_or-append_right ys (zeros n) n (0 + k) 0 l (omega arith) ∙ zero n (0 + k - n) (omega arith)

pub returns : goal.returns
returns g c =
    let n = g.row.N in
    let s = c.args.s.now in
    let ys = c.copy_from_slice.new.self in
    let f = c.requires.within in
    let e = c.copy_from_slice.ensures.after in
    let at : (k : ℕ) → k < n → get_or (ys ++ zeros n) (0 + k) 0 ≡ get_or s (c.args.b + k) 0 = λ k h. first n c.args.b k s ys f e h in
    c.from_le_bytes.ensures
    ∙ read-eight (ys ++ zeros n)
    ∙ le-short n 8 (ys ++ zeros n) s 0 c.args.b c.requires.width at (λ k g h. rest n c.args.b k s ys f e g h)
