-- What a scan of an escaped tag finds, and where the parts of a form lie. Assumes nothing.
use Rattle.std.specs.Prelude.{ℕ, ◌+◌, ◌≤◌, ◌≡◌, false, cond, [], ◌∷◌, eqb, leb, ltb, length, take, drop, Option, Some, None}
use Rattle.slices.specs.Bytes.{Bytes}
use Rattle.encoding.specs.Encoding.{escaped}
use Rattle.string_dv_dict_split.specs.declared.Scan.{Scan}
use Rattle.string_dv_dict_split.specs.declared.Scan.TheVariants.{Whole, Escape}
use Rattle.string_dv_dict_split.specs.declared.Form.{Form}
use Rattle.string_dv_dict_split.specs.declared.Form.TheVariants.{Short, Long}
use Rattle.string_dv_dict_split.specs.Forms.{accepted, tag_in, text_in, before}

-- One more byte of an escaped tag. None: packing never writes these bytes.
abbrev pub scan_step : Option Scan → ℕ → Option Scan
scan_step (Some (Whole n)) c = cond (eqb c 62) None (cond (eqb c 92) (Some (Escape n)) (Some (Whole (n + 1))))
scan_step (Some (Escape n)) c = cond (eqb c 92) (Some (Whole (n + 1))) (cond (eqb c 97) (Some (Whole (n + 1))) None)
scan_step None c = None

unfoldable pub scan_from : Option Scan → Bytes → Option Scan
scan_from st [] = st
scan_from st (c ∷ s) = scan_from (scan_step st c) s

abbrev pub scanned : Scan → ℕ
scanned (Whole n) = n
scanned (Escape n) = n

-- ---- where the parts of a form lie

-- Where the first '>' stands.
abbrev pub end_in : Bytes → Option ℕ
end_in s = cond (ltb (length (before s)) (length s)) (Some (length (before s))) None

-- A long form: `end` is where its first '>' stands, and the scan is that of the bytes before it.
abbrev pub long_by : ℕ → Option Scan → Option Form
long_by end (Some (Whole n)) = Some (Long end n)
long_by end (Some (Escape n)) = None
long_by end None = None

unfoldable pub long_split : Bytes → Option Form
long_split s = cond (ltb (length (before s)) (length s)) (long_by (length (before s)) (scan_from (Some (Whole 0)) (before s))) None

-- By shape alone. A first byte 0: an escaped tag up to the first '>'. Another first byte: the length of the tag.
unfoldable pub split_of : Bytes → Option Form
split_of [] = None
split_of (n ∷ s) = cond (eqb n 0) (long_split s) (cond (leb n (length s)) (Some (Short n)) None)

-- The same if packing makes the form, else none.
unfoldable pub form_of : Bytes → Option Form
form_of form = cond (accepted form) (split_of form) None

-- What is known of a form that was split.
pub record ShortForm (form : Bytes) (n : ℕ) : Type 0 where
  pub split : split_of form ≡ Some (Short n)
  pub tag : tag_in form ≡ take n (drop 1 form)
  pub text : text_in form ≡ drop (n + 1) form
  pub within : n + 1 ≤ length form

pub record LongForm (form : Bytes) (end n : ℕ) : Type 0 where
  pub split : split_of form ≡ Some (Long end n)
  pub tag : escaped (tag_in form) ≡ take end (drop 1 form)
  pub text : text_in form ≡ drop (end + 2) form
  pub within : end + 2 ≤ length form
  pub tag_length : length (tag_in form) ≡ n

abbrev pub Splits : Bytes → Option Form → Type 0
Splits form (Some (Short n)) = ShortForm form n
Splits form (Some (Long end n)) = LongForm form end n
Splits form None = accepted form ≡ false
