-- The table of kinds: what a name's second part may be, its dictionaries, and what they store of it. Assumes nothing.
use Rattle.std.specs.Prelude.{ℕ, ◌≡◌, refl, Bool, true, false, List, [], ◌∷◌, length, get_or, take, drop}
use Rattle.slices.specs.Bytes.{Bytes}
use Rattle.ranked_pair_iri_dv_dict.specs.Split.{head_length}
use Rattle.string_dv_dict.specs.Packed.{packed}
use Rattle.layout.specs.Sizes.{kinds}
use Rattle.model.specs.Names.{Name}

-- How the parts of a name become entries.
--   splits   the first part splits into head and rest
--   whole    the first part is the entry
--   packs    the tag, packed, stands in front of the text
--   pairs    head and rest are the parts as the caller gives them
pub data Way : Type 0 where
  splits : Way
  whole : Way
  packs : Way
  pairs : Way

-- ---- the table: one row for each kind, kind 0 first

pub record Row : Type 0 where
  pub no_second : Bool
  pub needs_tag : Bool
  pub heads_at : ℕ
  pub main_at : ℕ
  pub way : Way

abbrev pub iri : Row
iri = record { no_second = true; needs_tag = false; heads_at = 0; main_at = 1; way = splits }

abbrev pub plain : Row
plain = record { no_second = true; needs_tag = false; heads_at = 2; main_at = 2; way = whole }

-- Its first part is the text, its second the tag.
abbrev pub tagged : Row
tagged = record { no_second = false; needs_tag = true; heads_at = 3; main_at = 3; way = packs }

abbrev pub typed : Row
typed = record { no_second = false; needs_tag = false; heads_at = 4; main_at = 5; way = pairs }

abbrev pub rows : List Row
rows = iri ∷ plain ∷ tagged ∷ typed ∷ []

pub as_many : kinds ≡ length rows
as_many = refl

-- There are no kinds from `kinds` up: the checks refuse every such name. `plain` only says that they have no heads.
abbrev pub row_at : ℕ → Row
row_at k = get_or rows k plain

-- ---- what a way makes of a name

-- Whether the head is an entry of its own, and the main entry is the head's frequent id, then the rest. Otherwise the rest is the main entry.
abbrev pub has_heads : Way → Bool
has_heads splits = true
has_heads whole = false
has_heads packs = false
has_heads pairs = true

-- An IRI splits after its last '/' or '#'.
abbrev pub head_by : Way → Name → Bytes
head_by splits a = take (head_length a.first) a.first
head_by whole a = []
head_by packs a = []
head_by pairs a = a.first

abbrev pub rest_by : Way → Name → Bytes
rest_by splits a = drop (head_length a.first) a.first
rest_by whole a = a.first
rest_by packs a = packed a.first a.second
rest_by pairs a = a.second

-- ---- a kind: its row, and what its way makes of a name

pub record Kind : Type 0 where
  pub no_second : Bool
  pub needs_tag : Bool
  pub heads_at : ℕ
  pub main_at : ℕ
  pub way : Way
  pub paired : Bool
  pub head : Name → Bytes
  pub rest : Name → Bytes

abbrev pub by_row : Row → Kind
by_row r = record {
  no_second = r.no_second;
  needs_tag = r.needs_tag;
  heads_at = r.heads_at;
  main_at = r.main_at;
  way = r.way;
  paired = has_heads r.way;
  head = head_by r.way;
  rest = rest_by r.way;
}

abbrev pub row : ℕ → Kind
row k = by_row (row_at k)
