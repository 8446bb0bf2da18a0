-- The head and the rest of a name as the steps of an entry are given them. Assumes nothing.
use Rattle.std.specs.Prelude.{ℕ, ◌≡◌, cond, length, drop, Result, Ok, Err}
use Rattle.slices.specs.Bytes.{Bytes}
use Rattle.ranked_pair_iri_dv_dict.specs.Split.{head_length}
use Rattle.layout.specs.Numbers.{kind_number}
use Rattle.refusals.specs.declared.Refusal.{Refusal}
use Rattle.model.specs.Names.{Name, entered}
use Rattle.model.specs.Kinds.{row}
use Rattle.kind_table.specs.Rows.{is_split}
use Rattle.names.specs.declared.Name as Code

-- The name that these arguments give.
abbrev pub given : Code.Name → Name
given a = entered (kind_number a.kind) a.first.now a.second.now

-- The answer of its check, without the name.
abbrev pub shaped : Result Code.Name Refusal → Result Unit Refusal
shaped (Ok a) = Ok tt
shaped (Err why) = Err why

-- A name of the kind k, which has heads, with this head and this rest.
pub record IsPair (k : ℕ) (head rest : Bytes) (a : Name) : Type 0 where
  pub kinded : a.kind ≡ k
  pub headed : (row k).head a ≡ head
  pub rested : (row k).rest a ≡ rest

-- How many bytes of the first part are the head, where the kind has heads. A first part that does not split is all head.
abbrev pub head_size : ℕ → Bytes → ℕ
head_size k first = cond (is_split (row k).way) (head_length first) (length first)

-- The rest, behind a head of n bytes.
abbrev pub rest_behind : ℕ → ℕ → Bytes → Bytes → Bytes
rest_behind n k first second = cond (is_split (row k).way) (drop n first) second
