-- Where each field of `lists` lies: words of eight bytes, little endian, by their index. With no entry every field behind the sizes is zero. Assumes nothing.
--   word 0             the format
--   1 to 5             the sizes
--   6                  the lowest untaken page
--   16 + stride × d    dictionary d: how many entries it has; then its current page + 1; then how many pages it has
--   64 + i             page i: its dictionary + 1, used bytes, position among its dictionary's pages
--   then, for each dictionary, e entry words (page, offset, length), e order words, and 2e index places of four bytes (entry + 1, top bits of its hash)
--   then, for each kind, b words: the global block + 1 of each local block
--   then b words: the kind and local block of each global block
-- Every other word is initialised to zero and never written.
use Rattle.std.specs.Prelude.{ℕ, ◌+◌, ◌*◌, ◌/◌, ◌%◌}
use Rattle.layout.specs.declared.Sizes.{Sizes}
use Rattle.layout.specs.Sizes.{kinds, dictionaries}

-- "namedic2", low byte first. It changes whenever the meaning of the memory does.
abbrev pub format : ℕ
format = 0x32636964656D616E

abbrev pub untaken_at : ℕ
untaken_at = 6

-- How many words of the header each dictionary has. The last one is not used.
abbrev pub stride : ℕ
stride = 4

abbrev pub count_at : ℕ → ℕ
count_at d = 16 + stride * d

abbrev pub current_at : ℕ → ℕ
current_at d = 17 + stride * d

abbrev pub taken_at : ℕ → ℕ
taken_at d = 18 + stride * d

abbrev pub page_at : ℕ → ℕ
page_at i = 64 + i

-- The first of dictionary d's 3e words.
unfoldable pub dict_at : Sizes → ℕ → ℕ
dict_at s d = 64 + s.n + d * (3 * s.e)

abbrev pub entry_at : Sizes → ℕ → ℕ → ℕ
entry_at s d i = dict_at s d + i

abbrev pub order_at : Sizes → ℕ → ℕ → ℕ
order_at s d i = dict_at s d + (s.e + i)

-- An index place is half a word: this is its index among the quads.
abbrev pub place_at : Sizes → ℕ → ℕ → ℕ
place_at s d j = 2 * (dict_at s d + 2 * s.e) + j

-- The first of the b words of kind k's local blocks. The words of the global blocks follow those of the last kind.
unfoldable pub blocks_at : Sizes → ℕ → ℕ
blocks_at s k = dict_at s dictionaries + k * s.b

abbrev pub local_at : Sizes → ℕ → ℕ → ℕ
local_at s k l = blocks_at s k + l

abbrev pub global_at : Sizes → ℕ → ℕ
global_at s g = blocks_at s kinds + g

-- ---- several numbers in one word

-- A page: 0 untaken, else its dictionary + 1 (4 bits); used bytes (21 bits); position (10 bits).
abbrev pub page_word : ℕ → ℕ → ℕ → ℕ
page_word owner used position = owner + 16 * used + 33554432 * position

abbrev pub owner_of : ℕ → ℕ
owner_of w = w % 16

abbrev pub used_of : ℕ → ℕ
used_of w = w / 16 % 2097152

abbrev pub position_of : ℕ → ℕ
position_of w = w / 33554432

-- An entry: its page (10 bits), its offset in the page (21 bits), its length (21 bits).
abbrev pub entry_word : ℕ → ℕ → ℕ → ℕ
entry_word page offset size = page + 1024 * offset + 2147483648 * size

abbrev pub page_of : ℕ → ℕ
page_of w = w % 1024

abbrev pub offset_of : ℕ → ℕ
offset_of w = w / 1024 % 2097152

abbrev pub size_of : ℕ → ℕ
size_of w = w / 2147483648

-- An index place: 0 empty, else its entry + 1 (21 bits); the top 11 bits of the hash of the entry's key.
abbrev pub place_word : ℕ → ℕ → ℕ
place_word i h = i + 1 + 2097152 * (h / 2097152)

abbrev pub named_by : ℕ → ℕ
named_by q = q % 2097152

abbrev pub top_of : ℕ → ℕ
top_of q = q / 2097152

-- A global block: 0 free, else 1 + kind + 16 × local block.
abbrev pub block_word : ℕ → ℕ → ℕ
block_word k l = 1 + k + 16 * l
