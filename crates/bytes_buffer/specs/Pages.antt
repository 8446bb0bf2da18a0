-- The space that the dictionaries share, by document 01's section Pages. Assumes nothing.
use Rattle.std.specs.Prelude.{ℕ, zero, suc, ◌+◌, ◌^◌, Bool, ◌&&◌, cond, leb, ltb}
pub use Rattle.slices.specs.Updates.{upd}
use Rattle.layout.specs.declared.Sizes.{Sizes}
use Rattle.layout.specs.Sizes.{dictionaries}

-- A dictionary's pages, and how much of the last one is used.
pub record Space : Type 0 where
  pub taken : ℕ
  pub used : ℕ

abbrev pub no_space : ℕ → Space
no_space d = record { taken = zero; used = zero }

-- Whether an entry of n bytes fits the last page, which has 2^p bytes. Without a page none fits; exactly full is allowed.
unfoldable pub fits : ℕ → Space → ℕ → Bool
fits p x n = ltb zero x.taken && leb (x.used + n) (2 ^ p)

-- The space after an entry of n bytes: in the last page, or in one more.
unfoldable pub grown : ℕ → Space → ℕ → Space
grown p x n = cond (fits p x n) (record { taken = x.taken; used = x.used + n }) (record { taken = suc x.taken; used = n })

-- All spaces after an entry of n bytes in dictionary d.
unfoldable pub grown_at : Sizes → (ℕ → Space) → ℕ → ℕ → ℕ → Space
grown_at s sp d n = upd sp d (grown s.p (sp d) n)

abbrev pub sum : (ℕ → ℕ) → ℕ → ℕ
sum f zero = zero
sum f (suc n) = sum f n + f n

-- How many pages all dictionaries together have taken.
unfoldable pub all_pages : (ℕ → Space) → ℕ
all_pages sp = sum (λ d. (sp d).taken) dictionaries
