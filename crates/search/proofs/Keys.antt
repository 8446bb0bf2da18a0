-- The keys that are searched: a raw front and a raw rest; a head; a string behind its tag. Assumes nothing.
use Prim.Native.Nat.{ℕ, ◌+◌, ◌^◌, ◌≤◌, ◌<◌}
use mathlib.Core.Path.{◌≡◌, refl, sym, ap, ◌∙◌}
use mathlib.Core.Bool.{true, false, false≢true}
use mathlib.Core.List.{[], ◌++◌}
use native.Mathlib.Omega.{arith}
use lib.ListN.{length, length-append}
use Rattle.slices.specs.Bytes.{Bytes}
use Rattle.fnv.specs.Fnv.{fnv_from, fnv_of}
use Rattle.fnv.proofs.Laws.{fnv-of-append}
use Rattle.parts.specs.declared.Mode.{Mode}
use Rattle.parts.specs.declared.Mode.TheVariants.{Raw}
use Rattle.parts.specs.Parts.{bytes_of}
use Rattle.parts.proofs.Laws.{length-bytes}
use Rattle.string_dv_dict.proofs.Keys.{packed-key}
use Rattle.layout.specs.declared.Sizes.{Sizes}
use Rattle.layout.specs.Sizes.{InRange, limit, page_size}
use Rattle.layout.proofs.Ranges.{page-size, limit-fits}
use Rattle.bytes_key.specs.Keys.{key_bytes}
use Rattle.model.specs.Names.{entered}
use Rattle.model.specs.Kinds.{Way, splits, whole, packs, pairs, has_heads, rest_by, row}
use Rattle.model.proofs.Table.{first_only}
use Rattle.kind_table.specs.Rows.{front_mode}

pub raw-key : (front rest : Bytes) → key_bytes Raw front Raw rest ≡ front ++ rest
unfolding bytes_of
raw-key front rest = refl

pub raw-rest : (mode : Mode) (front rest : Bytes) → key_bytes mode front Raw rest ≡ bytes_of mode front ++ rest
unfolding bytes_of
raw-rest mode front rest = refl

-- A scan of the whole key.
pub scanned-hash : (key : Bytes) (h : ℕ) → h ≡ fnv_from 2166136261 key → h ≡ fnv_of key
unfolding fnv_of
scanned-hash key h p = p

-- The hash of the front is taken on over the rest.
pub hash-on : (front rest : Bytes) (g h : ℕ) → g ≡ fnv_of front → h ≡ fnv_from g rest → h ≡ fnv_of (front ++ rest)
hash-on front rest g h p q = q ∙ ap (λ (x : ℕ). fnv_from x rest) p ∙ sym (fnv-of-append front rest)

-- It may be stored in another form, before a raw rest.
pub on-hash : (mode : Mode) (front rest : Bytes) (g h : ℕ) → g ≡ fnv_of (bytes_of mode front) → h ≡ fnv_from g rest → h ≡ fnv_of (key_bytes mode front Raw rest)
unfolding bytes_of
on-hash mode front rest = hash-on (bytes_of mode front) rest

-- A name's key fits a page: a string behind its tag, or a rest behind a lead.
pub string-paged : (s : Sizes) (mode : Mode) (front rest : Bytes) → InRange s → length front + length rest ≤ limit s → length (key_bytes mode front Raw rest) ≤ page_size s
unfolding bytes_of
string-paged s mode front rest r l = omega (arith, length-append (bytes_of mode front) rest, length-bytes mode front, limit-fits s r)

pub lead-paged : (s : Sizes) (lead rest : Bytes) → InRange s → length lead ≤ 4 → length rest ≤ limit s → length (lead ++ rest) ≤ page_size s
lead-paged s lead rest r l m = omega (arith, length-append lead rest, limit-fits s r)

-- So it can be counted.
pub paged-fits : (s : Sizes) (n : ℕ) → InRange s → n ≤ page_size s → n < 2 ^ 64
paged-fits s n r l = omega (arith, page-size s r)

-- ---- a string behind its tag

by_way : (w : Way) (k : ℕ) (text tag : Bytes) → has_heads w ≡ false → (first_only w ≡ true → tag ≡ []) → rest_by w (entered k text tag) ≡ key_bytes (front_mode w) tag Raw text
unfolding bytes_of
by_way splits k text tag h o = absurd (false≢true (sym h))
by_way whole k text tag h o = rw (o refl)
by_way packs k text tag h o = packed-key text tag
by_way pairs k text tag h o = absurd (false≢true (sym h))

pub string-key : (k : ℕ) (text tag : Bytes) → (row k).paired ≡ false → (first_only (row k).way ≡ true → tag ≡ [])
    → (row k).rest (entered k text tag) ≡ key_bytes (front_mode (row k).way) tag Raw text
string-key k text tag h o = by_way (row k).way k text tag h o
