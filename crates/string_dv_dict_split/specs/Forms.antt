-- The only possible parts of a packed form, and which forms packing makes. Assumes nothing.
use Rattle.std.specs.Prelude.{ℕ, Bool, true, false, ◌&&◌, cond, [], ◌∷◌, eqb, take, drop}
use Rattle.std.proofs.Math.Option.{Option, none, some}
use Rattle.slices.specs.Bytes.{Bytes, same_bytes}
use Rattle.refusals.specs.declared.Refusal.{Refusal}
use Rattle.string_dv_dict.specs.Packed.{packed, pair_refusal}

-- The bytes before the first '>', and those behind it.
unfoldable pub before : Bytes → Bytes
before [] = []
before (c ∷ s) = cond (eqb c 62) [] (c ∷ before s)

unfoldable pub behind : Bytes → Bytes
behind [] = []
behind (c ∷ s) = cond (eqb c 62) s (behind s)

-- The byte that is escaped as '\' and c.
abbrev pub unescape : ℕ → ℕ
unescape c = cond (eqb c 97) 62 92

-- '\a' becomes '>', and '\\' becomes '\'. The first argument is true behind a '\'.
unfoldable pub unescaped : Bool → Bytes → Bytes
unescaped b [] = []
unescaped true (c ∷ s) = unescape c ∷ unescaped false s
unescaped false (c ∷ s) = cond (eqb c 92) (unescaped true s) (c ∷ unescaped false s)

unfoldable pub tag_in : Bytes → Bytes
tag_in [] = []
tag_in (n ∷ s) = cond (eqb n 0) (unescaped false (before s)) (take n s)

unfoldable pub text_in : Bytes → Bytes
text_in [] = []
text_in (n ∷ s) = cond (eqb n 0) (behind s) (drop n s)

abbrev pub is_legal : Option Refusal → Bool
is_legal none = true
is_legal (some why) = false

-- A form is accepted if its only possible parts are legal and pack to the same bytes.
unfoldable pub accepted : Bytes → Bool
accepted form = is_legal (pair_refusal (text_in form) (tag_in form)) && same_bytes (packed (text_in form) (tag_in form)) form
