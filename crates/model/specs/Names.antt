-- Names: a kind and two parts. Assumes nothing.
use Rattle.std.specs.Prelude.{ℕ, ◌+◌, Bool, ◌&&◌, eqb, length}
use Rattle.slices.specs.Bytes.{Bytes, same_bytes}

pub record Name : Type 0 where
  pub kind : ℕ
  pub first : Bytes
  pub second : Bytes

-- The name that a call's arguments give.
abbrev pub entered : ℕ → Bytes → Bytes → Name
entered k a b = record { kind = k; first = a; second = b }

-- Both parts together.
abbrev pub size : Name → ℕ
size a = length a.first + length a.second

-- Names are equal when kind and both parts agree byte for byte.
abbrev pub same_name : Name → Name → Bool
same_name a b = eqb a.kind b.kind && (same_bytes a.first b.first && same_bytes a.second b.second)
