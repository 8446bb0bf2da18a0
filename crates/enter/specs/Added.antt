-- What an add leaves: a plan carried out, and its promise for the name. Assumes nothing.
use Rattle.std.specs.Prelude.{ℕ, ◌+◌, ◌*◌, ◌%◌, ◌^◌, ◌≡◌, length, Result, Ok, Err}
use Rattle.std.proofs.Math.Option.{none}
use Rattle.slices.specs.Bytes.{Bytes}
use Rattle.layout.specs.declared.Sizes.{Sizes}
use Rattle.layout.specs.Numbers.{kind_number}
use Rattle.bytes_key.specs.KeyBytes.{bytes_in}
use Rattle.model.specs.Names.{Name}
use Rattle.model.specs.Answers.{AddAnswer}
use Rattle.model.specs.State.{State}
use Rattle.model.specs.Steps.{checks, add_answer, after_add}
use Rattle.memory.specs.Stands.{Stands}
use Rattle.memory.specs.Promises.{SameBeyond, AddBounded}
use Rattle.refusals.specs.declared.Refusal.{Refusal}
use Rattle.plan.specs.declared.Plan.{Plan}
use Rattle.plan.specs.Plans.{Plans}
use Rattle.plan_room.specs.Steps.{is_new, head_number}
use Rattle.commit.specs.declared.new_name.NewName.{NewName}
use Rattle.commit.specs.Written.{head_of, head_place, head_bytes, name_pages, name_lists}

-- A plan carried out: a refusal leaves all as found, else the number is fresh and the plan is written.
abbrev pub CarriedOut : Sizes → Bytes → Bytes → NewName → Result Plan Refusal → AddAnswer → Bytes → Bytes → Type 0
CarriedOut s pages lists w (Err why) r pages' lists' = (r ≡ AddAnswer.refused why) × (pages' ≡ pages) × (lists' ≡ lists)
CarriedOut s pages lists w (Ok x) r pages' lists' =
    (r ≡ AddAnswer.fresh (x.g * 2 ^ s.w + x.n % 2 ^ s.w))
    × (pages' ≡ name_pages s pages x (head_bytes w) (bytes_in w.key.now))
    × (lists' ≡ name_lists s lists (kind_number w.kind) (head_number (head_of w)) (head_place w) w.place x (head_bytes w) (bytes_in w.key.now))

pub record EntersName (s : Sizes) (pages lists : Bytes) (w : NewName) (r : AddAnswer) (pages' lists' : Bytes) : Type 0 where
  pub plan : Result Plan Refusal
  pub planned : Plans s lists (kind_number w.kind) (is_new (head_of w)) (head_number (head_of w)) (length (head_bytes w)) (length (bytes_in w.key.now)) plan
  pub carried : CarriedOut s pages lists w plan r pages' lists'

-- ---- the promise for a name

pub record AddsName (s : Sizes) (a : Name) (pages lists : Bytes) (r : AddAnswer) (pages' lists' : Bytes) : Type 0 where
  pub bounded : AddBounded s r
  pub kept : ((n : ℕ) → ¬ (r ≡ AddAnswer.fresh n)) → (pages' ≡ pages) × (lists' ≡ lists)
  pub beyond : SameBeyond s pages lists pages' lists'
  pub whole : (st : State) → Stands s st pages lists → checks s a ≡ none → (r ≡ add_answer s st a) × Stands s (after_add s st a) pages' lists'
