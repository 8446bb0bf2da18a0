-- The search over the words of the global blocks, step by step. Assumes nothing.
use Prim.Native.Nat.{ℕ, zero, suc, ◌+◌, ◌-◌, ◌<◌, ◌≤◌}
use mathlib.Core.Path.{◌≡◌, refl, sym, ap, ◌∙◌}
use mathlib.Core.Logic.{◌≢◌}
use mathlib.Core.Option.{some}
use Rattle.std.specs.Prelude.{Some, None}
use Rattle.std.specs.Prelude as Rust
use Rattle.std.specs.Option.{MatchOption}
use Rattle.blocks.specs.Answers.{found}
use native.Mathlib.Omega.{arith}
use native.Mathlib.Decide.{dec_lt}
use native.Mathlib.Numerals.{add-one}
use Rattle.slices.specs.Bytes.{Bytes}
use Rattle.words.specs.Words.{word_at}
use Rattle.blocks.specs.Blocks.{Block, if_free, search}
use Rattle.blocks.specs.Tables.{word_owner, owner_in}

-- Tables that agree on the blocks searched give the same.
pub search-agree : (t u : ℕ → Block) (g n : ℕ) → ((i : ℕ) → g ≤ i → i < g + n → t i ≡ u i) → search t g n ≡ search u g n
search-agree t u g zero h = refl
search-agree t u g (suc n) h =
    let ih : search t (suc g) n ≡ search u (suc g) n = search-agree t u (suc g) n (λ i f l. h i (omega arith) (omega arith)) in
    rw (h g (omega arith) (omega arith), ih)

module _ (lists : Bytes) (at b g : ℕ) (h : g < b) where
  more : b - g ≡ suc (b - (g + 1))
  more = omega arith

  pub search-here : word_at lists (at + g) ≡ 0 → search (owner_in lists at) g (b - g) ≡ some g
  unfolding owner_in
  search-here e = ap (search (owner_in lists at) g) more ∙ rw e

  pub search-on : word_at lists (at + g) ≢ 0 → search (owner_in lists at) g (b - g) ≡ search (owner_in lists at) (g + 1) (b - (g + 1))
  unfolding owner_in
  search-on d = ap (search (owner_in lists at) g) more ∙ go (word_at lists (at + g)) d ∙ rw add-one
    where
      go : (x : ℕ) → x ≢ 0 → if_free (word_owner x) g (search (owner_in lists at) (suc g) (b - (g + 1))) ≡ search (owner_in lists at) (suc g) (b - (g + 1))
      go zero n = absurd (n refl)
      go (suc x) n = refl

-- A search passes the blocks whose words are not 0.
pub searched-past : (lists : Bytes) (at b g i n : ℕ) → g + n ≡ i → i ≤ b → ((k : ℕ) → g ≤ k → k < i → word_at lists (at + k) ≢ 0)
    → search (owner_in lists at) g (b - g) ≡ search (owner_in lists at) i (b - i)
searched-past lists at b g i zero e f h = let q : g ≡ i = omega arith in rw q
searched-past lists at b g i (suc n) e f h =
    search-on lists at b g (omega arith) (h g (omega arith) (omega arith)) ∙ searched-past lists at b (g + 1) i n (omega arith) f (λ k l m. h k (omega arith) m)

-- It finds the first block whose word is 0.
pub first-found : (lists : Bytes) (at from b : ℕ) (r : Rust.Option ℕ)
    → MatchOption r ((k : ℕ) → from ≤ k → k < b → word_at lists (at + k) ≢ 0)
    (λ i. (from ≤ i) × (i < b) × (word_at lists (at + i) ≡ 0) × ((k : ℕ) → from ≤ k → k < i → word_at lists (at + k) ≢ 0))
    → r ≡ found (search (owner_in lists at) from (b - from))
first-found lists at from b (Some i) h =
    ap found (sym (searched-past lists at b from i (i - from) (omega arith) (omega arith) h.3 ∙ search-here lists at b i h.1 h.2))
first-found lists at from b None h = go (dec_lt from b)
  where
    go : Dec (from < b) → None ≡ found (search (owner_in lists at) from (b - from))
    go (yes l) =
        let z : b - b ≡ 0 = omega arith in
        ap found (sym (searched-past lists at b from b (b - from) (omega arith) (omega arith) h ∙ ap (search (owner_in lists at) b) z))
    go (no l) = let z : b - from ≡ 0 = omega arith in ap found (sym (ap (search (owner_in lists at) from) z))
