-- Four stores, all inside the dictionary's words and the header.
use Rattle.std.proofs.Common.{ℕ, ◌+◌, ◌*◌, ◌≡◌}
use Rattle.slices.specs.Bytes.{Bytes}
use Rattle.words.specs.Words.{set_word, set_quad}
use Rattle.layout.specs.declared.Sizes.{Sizes}
use Rattle.layout.specs.Numbers.{dictionary_number}
use Rattle.layout.specs.Fields.{count_at, dict_at, entry_word, place_word}
use Rattle.bytes_entry.specs.Written.{entry_written}
use Rattle.bytes_entry.proofs.write_entry.Goals as goal

-- The four stores, one after the other.
stores : (s : Sizes) (l l₁ l₂ l₃ l₄ : Bytes) (d k n page offset len stamp place h base w q : ℕ) → k ≡ d → base ≡ dict_at s k → w ≡ entry_word page offset len → q ≡ place_word n h
    → l₁ ≡ set_word l (base + n) w → l₂ ≡ set_word l₁ (base + (s.e + n)) stamp → l₃ ≡ set_quad l₂ (2 * (base + 2 * s.e) + place) q → l₄ ≡ set_word l₃ (count_at k) (n + 1)
    → l₄ ≡ entry_written s l d n page offset len stamp place h
unfolding entry_written
stores s l l₁ l₂ l₃ l₄ d k n page offset len stamp place h base w q a b e p f g i j = cc

pub returns : goal.returns
returns c =
    let a = c.args in
    stores a.layout.now.sizes a.lists.now _ _ _ _ (dictionary_number a.d) _ a.x.n a.lies.page a.lies.offset a.lies.len a.x.stamp a.x.place a.h _ _ _
    c.from-d.ensures.0 c.dict_at-base.ensures c.word.ensures c.place_word.ensures
    c.put_number.ensures c.put_number-2.ensures c.put_number-3.ensures c.put_number-4.ensures
