-- What a legal name stores fits a page. Assumes nothing.
use Prim.Native.Nat.{ℕ, ◌+◌, ◌*◌, ◌≤◌}
use mathlib.Core.Path.{◌≡◌}
use mathlib.Core.Logic.{inl, inr}
use mathlib.Core.List.{List, ◌++◌}
use mathlib.Core.Option.{none}
use native.Mathlib.Omega.{arith}
use borrow.Table.Elements.{take-le}
use lib.ListN.{length, length-append, length-drop}
use Rattle.slices.specs.Bytes.{Bytes}
use Rattle.slices.proofs.Tests.{Split, split}
use Rattle.layout.specs.declared.Sizes.{Sizes}
use Rattle.layout.specs.Sizes.{InRange, limit, page_size}
use Rattle.layout.proofs.Ranges.{limit-fits}
use Rattle.ranked_pair_dictionary.specs.FrequentId.{fid}
use Rattle.ranked_pair_dictionary.proofs.Laws.{further-le, length-fid}
use Rattle.ranked_pair_iri_dv_dict.specs.Split.{head_length}
use Rattle.string_dv_dict.proofs.Laws.{packed-at-most}
use Rattle.model.specs.Names.{Name, size}
use Rattle.model.specs.Kinds.{Way, splits, whole, packs, pairs, head_by, rest_by, row}
use Rattle.model.specs.Steps.{checks, name_head, key_of}
use Rattle.model.proofs.Legal.{legal}

-- By the way of storing.
head-length : (w : Way) (a : Name) → length (head_by w a) ≤ size a
head-length splits a = omega (arith, take-le (head_length a.first) a.first)
head-length whole a = omega arith
head-length packs a = omega arith
head-length pairs a = omega arith

module _ (s : Sizes) (a : Name) (e : checks s a ≡ none) where
  rest-length : (w : Way) → length (rest_by w a) ≤ 2 + 2 * limit s
  rest-length splits = omega (arith, length-drop (head_length a.first) a.first, (legal s a e).shape.size)
  rest-length whole = omega (arith, (legal s a e).shape.size)
  rest-length packs = omega (arith, packed-at-most a.first a.second, (legal s a e).shape.size)
  rest-length pairs = omega (arith, (legal s a e).shape.size)

  module _ (r : InRange s) where
    pub head-short : length (name_head a) ≤ page_size s
    head-short = omega (arith, (legal s a e).shape.size, head-length (row a.kind).way a, limit-fits s r)

    pub key-short : (hs : List Bytes) → length (key_of hs a) ≤ page_size s
    key-short hs = go (split (row a.kind).paired)
      where
        led : (f : ℕ) → length (fid f ++ (row a.kind).rest a) ≤ page_size s
        led f = omega (arith, rest-length (row a.kind).way, length-fid f, further-le f, length-append (fid f) ((row a.kind).rest a), limit-fits s r)

        go : Split (row a.kind).paired → length (key_of hs a) ≤ page_size s
        go (inl q) = rw q (led _)
        go (inr q) = rw q (omega (arith, rest-length (row a.kind).way, limit-fits s r))
