-- What the check of the header says of the memory: of the promises' first cases, and of any state that it stands for. Assumes nothing.
use Prim.Native.Nat.{ℕ}
use mathlib.Core.Path.{◌≡◌, sym, ◌∙◌}
use mathlib.Core.Bool.{Bool, true, false, not}
use lib.Dec.{eqb, ltb}
use lib.ListN.{length}
use Rattle.std.specs.Prelude.{cond, Result, Ok, Err}
use Rattle.slices.specs.Bytes.{Bytes}
use Rattle.words.specs.Words.{word_at}
use Rattle.refusals.specs.declared.Refusal.{Refusal}
use Rattle.refusals.specs.declared.Refusal.TheVariants.{Unopened}
use Rattle.layout.specs.declared.Sizes.{Sizes}
use Rattle.layout.specs.Sizes.{in_range, InRange, page_bytes, list_bytes}
use Rattle.layout.specs.Fields.{format}
use Rattle.layout.specs.Lent.{Fit}
use Rattle.layout.proofs.Ranges.{ranged}
use Rattle.header.specs.Header.{header_of, sizes_in, AlwaysUnopened, HeaderOf}
use Rattle.header.proofs.Opening.{always, opened-by}
use Rattle.model.specs.State.{State}
use Rattle.memory.specs.Stands.{Stands}
use Rattle.memory.proofs.Counts.{header_is}

-- ---- a refusal of the check is number 3

unopened-by : (c : Bool) (x : Result Sizes Refusal) (why : Refusal) → (x ≡ Err why → why ≡ Unopened) → cond c (Err Unopened) x ≡ Err why → why ≡ Unopened
unopened-by true x why f e = cc
unopened-by false x why f e = f e

pub header-refused : {why : Refusal} (pages : ℕ) (lists : Bytes) → header_of pages lists ≡ Err why → why ≡ Unopened
unfolding header_of
header-refused {why} pages lists =
    unopened-by (ltb (length lists) 512) _ why
    (unopened-by (not (eqb (word_at lists 0) format)) _ why
    (unopened-by (not (in_range (sizes_in lists))) _ why
    (unopened-by (ltb pages (page_bytes (sizes_in lists))) _ why
    (unopened-by (ltb (length lists) (list_bytes (sizes_in lists))) _ why (λ e. cc)))))

-- ---- any memory

module _ (pages lists : Bytes) where
  -- A memory that is none stands for nothing.
  pub no-state : {why : Refusal} → header_of (length pages) lists ≡ Err why → (s : Sizes) (st : State) → Stands s st pages lists → ⊥
  no-state {why} e s st S =
      let q : ◌≡◌ {A = Result Sizes Refusal} (Err why) (Ok s) = sym e ∙ header_is S in cc

  module _ (s : Sizes) (e : header_of (length pages) lists ≡ Ok s) where
    pub header : HeaderOf s (length pages) lists
    header = opened-by (length pages) lists s e

    pub in-range : InRange s
    in-range = ranged s header.ranged

    pub sizes-read : sizes_in lists ≡ s
    sizes-read = header.sizes-are

    pub not-always : AlwaysUnopened pages lists → ⊥
    not-always u =
        let q : ◌≡◌ {A = Result Sizes Refusal} (Ok s) (Err Unopened) = sym e ∙ always pages lists u in cc

    -- What a writer may rely on.
    pub fit : Fit s pages lists
    fit = record { pages-fit = header.pages-fit; lists-fit = header.lists-fit }

    -- The sizes of any state that it stands for.
    pub one-sizes : (t : Sizes) (st : State) → Stands t st pages lists → t ≡ s
    one-sizes t st S =
        let q : ◌≡◌ {A = Result Sizes Refusal} (Ok t) (Ok s) = sym (header_is S) ∙ e in cc
