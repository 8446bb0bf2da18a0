-- A tagged string packed into one byte string (Nemo's two_strings_to_one), and which texts and tags may be. Assumes nothing.
use Rattle.std.specs.Prelude.{◌+◌, ◌≤◌, ◌≡◌, true, false, ◌&&◌, not, cond, ◌∷◌, ◌++◌, leb, ltb, length}
use Rattle.std.proofs.Math.Option.{Option, none, some}
use Rattle.slices.specs.Bytes.{Bytes, is_empty}
use Rattle.layout.specs.Sizes.{name_limit}
use Rattle.utf8.specs.Text.{is_text}
use Rattle.encoding.specs.Encoding.{escaped}
use Rattle.refusals.specs.declared.Refusal.{Refusal}
use Rattle.refusals.specs.declared.Refusal.TheVariants.{TooLong, NotText, NoTag}

-- A tag of up to 127 bytes: length byte, tag, text. A longer one: 0, the tag escaped, '>', text.
unfoldable pub packed : Bytes → Bytes → Bytes
packed text tag = cond (leb (length tag) 127) (length tag ∷ tag ++ text) (0 ∷ escaped tag ++ 62 ∷ text)

-- Why a text and a tag are no tagged string.
unfoldable pub pair_refusal : Bytes → Bytes → Option Refusal
pair_refusal text tag =
    cond (ltb name_limit (length text + length tag)) (some TooLong)
    (cond (not (is_text text && is_text tag)) (some NotText)
    (cond (is_empty tag) (some NoTag) none))

-- A text and a tag that are a legal tagged string: nothing refuses them.
pub record LegalTagged (text tag : Bytes) : Type 0 where
  pub size : length text + length tag ≤ name_limit
  pub text-is : is_text text ≡ true
  pub tag_is : is_text tag ≡ true
  pub tagged : is_empty tag ≡ false
