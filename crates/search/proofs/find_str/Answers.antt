-- A string's key is its tag, as it is stored, and then its text. Assumes nothing.
use Rattle.std.proofs.Common.{◌≡◌, ◌<◌, ℕ, true, false, [], ◌∷◌, ◌++◌, length, sym, ap, subst, ◌∙◌, ltb-true, eqb-true, arith}
use mathlib.Core.Bool.{false≢true}
use Rattle.std.proofs.Math.Option.{none}
use Rattle.slices.specs.Bytes.{Bytes}
use Rattle.parts.specs.Parts.{bytes_of}
use Rattle.utf8.specs.Text.{is_text}
use Rattle.layout.specs.Numbers.{kind_number}
use Rattle.kind_table.specs.Rows.{front_mode}
use Rattle.bytes_key.specs.KeyBytes.{bytes_in}
use Rattle.names.specs.Given.{given}
use Rattle.layout.specs.declared.Sizes.{Sizes}
use Rattle.model.specs.Names.{entered}
use Rattle.model.specs.Kinds.{row}
use Rattle.model.specs.Steps.{shape_refusal}
use Rattle.model.proofs.Legal.{legal-shape}
use Rattle.names.proofs.Second.{shape-second}
use Rattle.search.specs.Found.{key_behind}
use Rattle.search.proofs.Keys.{scanned-hash, hash-on, raw-rest, string-paged, paged-fits, string-key}
use Rattle.search.proofs.Ends.{key-ends, key-hashed}
use Rattle.search.proofs.Ascii.{ascii-text, no_bytes}
use Rattle.search.proofs.find_str.Goals as goal
use Rattle.search.proofs.find_str.Goals.{then-name-eq0, else-name-eq0}

no_tag : (tag : Bytes) → length tag ≡ 0 → is_text tag ≡ true
no_tag [] e = no_bytes
no_tag (x ∷ tag) e = absurd (omega arith)

pub behind-key-requires-clause-hashed : goal.behind-key-requires-clause-hashed
behind-key-requires-clause-hashed c = hash-on _ _ _ _ (scanned-hash _ _ c.hash_on.ensures) c.scan-x.ensures.0

pub behind-key-requires-clause-fits : goal.behind-key-requires-clause-fits
unfolding bytes_of
behind-key-requires-clause-fits c =
    let L = c.args.memory.now.lists.layout in
    let n = c.args.name.now in
    let l = (legal-shape _ _ c.requires.0).size in
    rw c.front-front.ensures (paged-fits L.sizes _ L.in_range (string-paged L.sizes (front_mode (row (kind_number n.kind)).way) _ _ L.in_range (omega (arith, l))))

-- The key is all that the kind stores of the string.
key-is : (s : Sizes) (k : ℕ) (text tag front key : Bytes) → shape_refusal s (entered k text tag) ≡ none → (row k).paired ≡ false → front ≡ bytes_of (front_mode (row k).way) tag
    → key ≡ front ++ text
    → key ≡ key_behind k 0 ((row k).rest (entered k text tag))
key-is s k text tag front key shape flat f e =
    let q : key ≡ (row k).rest (entered k text tag) =
    e ∙ ap (λ (x : Bytes). x ++ text) f ∙ sym (raw-rest _ _ text) ∙ sym (string-key k text tag flat (shape-second s (entered k text tag) shape)) in
    rw flat q

pub returns-clause-ended : goal.returns-clause-ended
returns-clause-ended c =
    let n = c.args.name.now in
    let k = kind_number n.kind in
    let q = key-is c.args.memory.now.lists.layout.sizes k n.first.now n.second.now _ (bytes_in c.behind-key.result) c.requires.0 c.requires.1 c.front-front.ensures c.behind-key.ensures.1 in
    key-ends _ _ _ k 0 [] ((row k).rest (given n)) _ _ _ q (λ y. absurd (false≢true (sym c.requires.1 ∙ y))) c.find_key.ensures

pub returns-clause-hashed : goal.returns-clause-hashed
returns-clause-hashed c =
    let n = c.args.name.now in
    let k = kind_number n.kind in
    let q = key-is c.args.memory.now.lists.layout.sizes k n.first.now n.second.now _ (bytes_in c.behind-key.result) c.requires.0 c.requires.1 c.front-front.ensures c.behind-key.ensures.1 in
    key-hashed _ _ _ k 0 [] ((row k).rest (given n)) _ _ _ _ q (λ y. absurd (false≢true (sym c.requires.1 ∙ y)))
    (rw c.behind-key.ensures.1 (hash-on _ n.first.now _ _ (scanned-hash _ _ c.hash_on.ensures) c.scan-x.ensures.0)) c.find_key.ensures

pub returns-clause-ascii : goal.returns-clause-ascii
returns-clause-ascii c =
    λ p.
    let n = c.args.name.now in
    elim c.if-name-eq0.branch [
      | then-name-eq0 w ↦ (ascii-text n.first.now 0 (subst (λ (n : ℕ). n < 128) c.scan-x.ensures.1 (ltb-true _ _ (sym w.result-is ∙ p))), no_tag n.second.now w.if-name-eq0.true)
      | else-name-eq0 w ↦ absurd (w.if-name-eq0.false (eqb-true _ _ (sym w.result-is ∙ p)))
    ]
