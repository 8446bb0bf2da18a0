-- The answers of each entry, as document 01 has them. Assumes nothing.
use Rattle.std.specs.Prelude.{ℕ}
use Rattle.refusals.specs.declared.Refusal.{Refusal}

pub data OpenAnswer : Type 0 where
  refused : Refusal → OpenAnswer
  done : OpenAnswer

pub data AddAnswer : Type 0 where
  refused : Refusal → AddAnswer
  fresh : ℕ → AddAnswer
  known : ℕ → AddAnswer

-- `absent` is document 01's none.
pub data FindAnswer : Type 0 where
  refused : Refusal → FindAnswer
  known : ℕ → FindAnswer
  absent : FindAnswer

-- `name k m n`: the kind and both lengths.
pub data ReadAnswer : Type 0 where
  refused : Refusal → ReadAnswer
  name : ℕ → ℕ → ℕ → ReadAnswer
  absent : ReadAnswer

pub data CountAnswer : Type 0 where
  refused : Refusal → CountAnswer
  count : ℕ → CountAnswer
