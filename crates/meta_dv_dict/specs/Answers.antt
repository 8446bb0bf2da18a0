-- What each conversion answers: within bounds on any memory, and by the rule on memory that holds a state. Assumes nothing.
use Rattle.std.specs.Prelude.{ℕ, ◌+◌, ◌*◌, ◌/◌, ◌%◌, ◌^◌, ◌<◌, ◌≡◌, Option, Some, None, Result, Ok, Err}
use Rattle.slices.specs.Bytes.{Bytes}
use Rattle.layout.specs.declared.Sizes.{Sizes}
use Rattle.layout.specs.Numbers.{kind_number}
use Rattle.blocks.specs.Blocks.{Block, free, held, Blocks, global}
use Rattle.blocks.specs.Tables.{BlocksAt}
use Rattle.refusals.specs.declared.Refusal.{Refusal}
use Rattle.refusals.specs.declared.Refusal.TheVariants.{Unopened}
use Rattle.meta_dv_dict.specs.declared.GlobalId.{GlobalId}
use Rattle.meta_dv_dict.specs.declared.Owner.{Owner}

-- ---- local_to_global

abbrev pub NumberBelow : ℕ → ℕ → Result GlobalId Refusal → Type 0
NumberBelow w b (Ok x) = x.0 / 2 ^ w < b
NumberBelow w b (Err why) = why ≡ Unopened

pub record Globals (s : Sizes) (lists : Bytes) (k n : ℕ) (r : Result GlobalId Refusal) : Type 0 where
  pub range : NumberBelow s.w s.b r
  pub right : (b : Blocks) → BlocksAt s b lists → n < b.next k → r ≡ Ok (record { 0 = global s.w b k n })

-- ---- global_to_local

-- What the owner of a number's block says of the number: a kind's number, and the number within the kind.
abbrev pub owned_by : ℕ → ℕ → Block → Option (ℕ × ℕ)
owned_by w number free = None
owned_by w number (held k l) = Some (k, l * 2 ^ w + number % 2 ^ w)

-- The same by the answer of the code.
abbrev pub owned : Result (Option Owner) Refusal → Result (Option (ℕ × ℕ)) Refusal
owned (Ok (Some x)) = Ok (Some (kind_number x.kind, x.local.0))
owned (Ok None) = Ok None
owned (Err why) = Err why

abbrev pub OwnerBelow : ℕ → ℕ → Result (Option Owner) Refusal → Type 0
OwnerBelow w b (Ok (Some x)) = x.local.0 / 2 ^ w < b
OwnerBelow w b (Ok None) = Unit {0}
OwnerBelow w b (Err why) = why ≡ Unopened

pub record Locals (s : Sizes) (lists : Bytes) (number : ℕ) (r : Result (Option Owner) Refusal) : Type 0 where
  pub range : OwnerBelow s.w s.b r
  pub right : (b : Blocks) → BlocksAt s b lists → owned r ≡ Ok (owned_by s.w number (b.owner (number / 2 ^ s.w)))
