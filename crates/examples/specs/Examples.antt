-- Document 01's worked examples, M1 to M11, said of the definitions that the contracts cite. Assumes nothing.
use Rattle.std.specs.Prelude.{ℕ, zero, suc, ◌^◌, ◌≡◌, true, false, List, [], ◌∷◌, ◌++◌, replicate, drop, Ok, Err}
use Rattle.std.proofs.Math.Option.{none, some}
use Rattle.slices.specs.Bytes.{Bytes}
use Rattle.utf8.specs.Text.{is_text}
use Rattle.refusals.specs.declared.Refusal.TheVariants.{HighNumber, NoBlock}
use Rattle.refusals.specs.Numbers.{refusal_number}
use Rattle.ranked_pair_iri_dv_dict.specs.Split.{head_of, length_of}
use Rattle.ranked_pair_dictionary.specs.FrequentId.{write_fid_answer, write_fid_buffer}
use Rattle.layout.specs.declared.Sizes.{Sizes}
use Rattle.blocks.specs.Rule.{block_rule}
use Rattle.string_dv_dict.specs.Answers.{pack_answer, pack_buffer}
use Rattle.model.specs.Names.{Name, entered}
use Rattle.model.specs.Answers.AddAnswer.{refused, fresh, known}
use Rattle.model.specs.State.{State, opened}
use Rattle.model.specs.Steps.{add_answer, after_add}

-- ASCII text.
abbrev pub http : Bytes
http = 104 ∷ 116 ∷ 116 ∷ 112 ∷ 58 ∷ 47 ∷ 47 ∷ 112 ∷ 47 ∷ 97 ∷ 35 ∷ 98 ∷ []

abbrev pub press : Bytes
press = 117 ∷ 114 ∷ 110 ∷ 58 ∷ 112 ∷ 114 ∷ 101 ∷ 115 ∷ 115 ∷ []

-- A buffer of n bytes as found.
abbrev pub found : ℕ → Bytes
found n = replicate n 170

-- 127 times 'a', then '>'.
abbrev pub m7_tag : Bytes
m7_tag = replicate 127 97 ++ 62 ∷ []

-- Block width 4, b blocks.
abbrev pub sizes : ℕ → Sizes
sizes b = record { p = 13; n = 4; e = 100; w = 4; b = b }

-- The kinds of n IRIs.
abbrev pub iris : ℕ → List ℕ
iris n = replicate n 0

-- The kinds of n strings after 65 IRIs, newest first.
abbrev pub strings : ℕ → List ℕ
strings n = replicate n 1 ++ iris 65

-- The name of a kind whose first part is the byte n.
abbrev pub named : ℕ → ℕ → Name
named k n = entered k (n ∷ []) []

-- The first n of these names, newest first.
abbrev pub names : ℕ → ℕ → List Name
names k zero = []
names k (suc n) = named k n ∷ names k n

-- The state after adds of names, newest first.
abbrev pub added : Sizes → State → List Name → State
added s st [] = st
added s st (a ∷ ns) = after_add s (added s st ns) a

-- With b blocks, after n IRIs; with 8 blocks, after 65 IRIs and n strings.
abbrev pub after_iris : ℕ → ℕ → State
after_iris b n = added (sizes b) opened (names 0 n)

abbrev pub after_strings : ℕ → State
after_strings n = added (sizes 8) (after_iris 8 65) (names 1 n)

-- Document 01: the marked bench cards.
pub record Examples : Type 0 where
  -- M1 `http://p/a#b`, M2 `a/`, M3 `urn:press`: the head's length.
  pub m1-m3 : length_of (head_of http) ∷ length_of (head_of (97 ∷ 47 ∷ [])) ∷ length_of (head_of press) ∷ [] ≡ 11 ∷ 2 ∷ 0 ∷ []
  pub m1-m2-rests : drop (length_of (head_of http)) http ∷ drop (length_of (head_of (97 ∷ 47 ∷ []))) (97 ∷ 47 ∷ []) ∷ [] ≡ (98 ∷ []) ∷ [] ∷ []
  -- M4 the frequent ids of 63, 64, 16,383 and 16,384, in a buffer of 5 bytes.
  pub m4 : write_fid_buffer 63 (found 5) ∷ write_fid_buffer 64 (found 5) ∷ write_fid_buffer 16383 (found 5) ∷ write_fid_buffer 16384 (found 5) ∷ []
      ≡ (63 ∷ found 4) ∷ (64 ∷ 64 ∷ found 3) ∷ (127 ∷ 255 ∷ found 3) ∷ (128 ∷ 64 ∷ 0 ∷ found 2) ∷ []
  -- M5 the frequent id of 4,194,304; 2^30 gives 12.
  pub m5 : write_fid_buffer 4194304 (found 5) ≡ 192 ∷ 64 ∷ 0 ∷ 0 ∷ found 1
  pub m5-answers : write_fid_answer 4194304 5 ∷ write_fid_answer (2 ^ 30) 5 ∷ [] ≡ Ok 4 ∷ Err HighNumber ∷ []
  pub m5-number : refusal_number HighNumber ≡ 12
  -- M6 text `Ein`, tag `de`.
  pub m6 : pack_buffer (69 ∷ 105 ∷ 110 ∷ []) (100 ∷ 101 ∷ []) (found 7) ≡ 2 ∷ 100 ∷ 101 ∷ 69 ∷ 105 ∷ 110 ∷ found 1
  -- M7 a tag of 127 'a' and '>', text empty.
  pub m7 : pack_buffer [] m7_tag (found 131) ≡ 0 ∷ replicate 127 97 ++ 92 ∷ 97 ∷ 62 ∷ []
  pub m7-answer : pack_answer [] m7_tag 131 ≡ Ok 131
  -- M8 text: yes; no, no, no.
  pub m8 : is_text (244 ∷ 143 ∷ 191 ∷ 191 ∷ []) ∷ is_text (192 ∷ 128 ∷ []) ∷ is_text (237 ∷ 160 ∷ 128 ∷ []) ∷ is_text (244 ∷ 144 ∷ 128 ∷ 128 ∷ []) ∷ []
      ≡ true ∷ false ∷ false ∷ false ∷ []
  -- M9 the 17th, 33rd, 49th and 65th IRI. M10 then the 1st, 17th and 33rd string. M11 the 65th IRI with B 7: none, which gives 10.
  pub m9-m11 : block_rule (sizes 8) (iris 16) 0 ∷ block_rule (sizes 8) (iris 32) 0
      ∷ block_rule (sizes 8) (iris 48) 0 ∷ block_rule (sizes 8) (iris 64) 0
      ∷ block_rule (sizes 8) (iris 65) 1 ∷ block_rule (sizes 8) (strings 16) 1 ∷ block_rule (sizes 8) (strings 32) 1
      ∷ block_rule (sizes 7) (iris 64) 0 ∷ []
      ≡ some 16 ∷ some 32 ∷ some 64 ∷ some 112 ∷ some 48 ∷ some 80 ∷ some 96 ∷ none ∷ []
  pub m11-number : refusal_number NoBlock ≡ 10
  -- The same numbers as answers of adds. With B 7 a known name is still known after the refused add.
  pub m9-m11-answers : add_answer (sizes 8) (after_iris 8 16) (named 0 16) ∷ add_answer (sizes 8) (after_iris 8 32) (named 0 32)
      ∷ add_answer (sizes 8) (after_iris 8 48) (named 0 48) ∷ add_answer (sizes 8) (after_iris 8 64) (named 0 64)
      ∷ add_answer (sizes 8) (after_strings 0) (named 1 0) ∷ add_answer (sizes 8) (after_strings 16) (named 1 16) ∷ add_answer (sizes 8) (after_strings 32) (named 1 32)
      ∷ add_answer (sizes 7) (after_iris 7 64) (named 0 64) ∷ add_answer (sizes 7) (after_iris 7 64) (named 0 20) ∷ []
      ≡ fresh 16 ∷ fresh 32 ∷ fresh 64 ∷ fresh 112 ∷ fresh 48 ∷ fresh 80 ∷ fresh 96 ∷ refused NoBlock ∷ known 20 ∷ []
