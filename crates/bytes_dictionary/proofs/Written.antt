-- The stores of an insert put together, for each spot; and the spots that a plan gives. Assumes nothing.
use Prim.Native.Nat.{ℕ, ◌+◌, ◌*◌, ◌≤◌}
use mathlib.Core.Path.{◌≡◌, refl}
use Rattle.std.specs.Prelude.{Option, None, Ok}
use lib.ListN.{length}
use lib.Seq.{sets}
use Rattle.slices.specs.Bytes.{Bytes}
use Rattle.fnv.specs.Fnv.{fnv_of}
use Rattle.layout.specs.declared.Sizes.{Sizes}
use Rattle.layout.specs.Sizes.{page_size}
use Rattle.bytes_buffer.specs.declared.Spot.{Spot}
use Rattle.bytes_buffer.specs.declared.Spot.TheVariants.{Current, Next}
use Rattle.page_words.specs.Written.{extended_page, took_page}
use Rattle.bytes_buffer.specs.Spots.{InPages}
use Rattle.layout.specs.declared.packed.Extent.{Extent}
use Rattle.bytes_entry.specs.Written.{entry_written}
use Rattle.bytes_dictionary.specs.Written.{pages_after, lists_after, page_at, offset_at, HasRoom, pages_with, lists_with}

-- ---- the stores

-- The bytes of an entry that lies at its spot.
pub pages-put : (s : Sizes) (pages : Bytes) (spot : Spot) (key : Bytes) (lies : Extent) → lies.page ≡ page_at spot → lies.offset ≡ offset_at spot
    → sets pages (lies.page * page_size s + lies.offset) key ≡ pages_after s pages spot key
unfolding pages_after
pages-put s pages (Current page offset) key lies a b = rw (a, b) refl
pages-put s pages (Next page) key lies a b = rw (a, b) refl

module _ (s : Sizes) (lists : Bytes) (d n place : ℕ) (spot : Spot) (stamp : ℕ) (key : Bytes) (lies : Extent) (a : lies.page ≡ page_at spot)
    (b : lies.offset ≡ offset_at spot) (c : lies.len ≡ length key) where
  -- The words of the entry, then those of its page.
  pub lists-current : (page offset len h : ℕ) (lists₁ lists₂ : Bytes) → spot ≡ Current page offset → len ≡ length key → h ≡ fnv_of key
      → lists₁ ≡ entry_written s lists d n lies.page lies.offset lies.len stamp place h → lists₂ ≡ extended_page lists₁ page (offset + len)
      → lists₂ ≡ lists_after s lists d n place spot stamp key
  unfolding lists_after
  lists-current page offset len h lists₁ lists₂ e l f q r =
      let a' : lies.page ≡ page = rw e at a in
      let b' : lies.offset ≡ offset = rw e at b in
      rw e cc

  pub lists-next : (page len h : ℕ) (lists₁ lists₂ : Bytes) → spot ≡ Next page → len ≡ length key → h ≡ fnv_of key
      → lists₁ ≡ entry_written s lists d n lies.page lies.offset lies.len stamp place h → lists₂ ≡ took_page lists₁ d page len
      → lists₂ ≡ lists_after s lists d n place spot stamp key
  unfolding lists_after
  lists-next page len h lists₁ lists₂ e l f q r =
      let a' : lies.page ≡ page = rw e at a in
      let b' : lies.offset ≡ 0 = rw e at b in
      rw e cc

-- At no spot nothing is written.
module _ (s : Sizes) (pages lists : Bytes) (d n place : ℕ) (spot : Option Spot) (stamp : ℕ) (key : Bytes) where
  abbrev pub After : Bytes → Bytes → Type 0
  After pages' lists' = (pages' ≡ pages_with s pages spot key) × (lists' ≡ lists_with s lists d n place spot stamp key)

  pub after_none : spot ≡ None → After pages lists
  after_none e = rw e (refl, refl)

-- A plan's spot has room for what was planned.
pub plan-room : (s : Sizes) (u len : ℕ) (spot : Spot) → len ≤ page_size s → InPages s u len (Ok spot) → HasRoom s len spot
plan-room s u len (Current page offset) l p = p
plan-room s u len (Next page) l p = (p.1, l)
