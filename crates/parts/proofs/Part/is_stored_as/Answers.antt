-- The comparison of each mode. Assumes nothing.
use Rattle.std.proofs.Common.{◌≡◌, ◌&&◌, ◌-◌, [], ◌∷◌, length, take, drop, sym, ◌∙◌, arith, rules, length-drop}
use lib.Seq.{take_all}
use Rattle.slices.specs.Bytes.{Bytes, same_bytes}
use Rattle.encoding.specs.Encoding.{form_of, first_byte, encoded}
use Rattle.encoding.proofs.Laws.{tag-bytes}
use Rattle.parts.specs.declared.Mode.TheVariants.{Tag}
use Rattle.parts.specs.Parts.{bytes_of}
use Rattle.parts.proofs.Laws.{same-append}
use Rattle.parts.proofs.Part.is_stored_as.Goals as goal

-- A stored tag: the byte in front is compared, and then what stands behind it.
tag : (s t : Bytes) → same_bytes (bytes_of Tag s) t ≡ (same_bytes (first_byte s ∷ []) (take 1 t) && same_bytes (encoded (form_of s) s) (drop 1 t))
unfolding bytes_of
tag s t = rw (tag-bytes s) (same-append (first_byte s ∷ []) (encoded (form_of s) s) t)

pub returns-in-Raw : goal.returns-in-Raw
unfolding bytes_of
returns-in-Raw c = rw c.in-Raw.is c.same_raw.ensures

pub returns-then-eq : goal.returns-then-eq
returns-then-eq c =
    let t = c.args.stored.now in
    let f : c.eq.result ≡ same_bytes (c.first_byte.result ∷ []) (take 1 t) = search rules in
    let e = rw (c.first_byte.ensures, c.if-eq.true) at f in
    let w : take (length t - 1) (drop 1 t) ≡ drop 1 t = take_all (length t - 1) (drop 1 t) (simp length-drop (omega arith)) in
    rw c.in-Tag.is ((rw (c.of.ensures, w) at c.same_encoded.ensures) ∙ (rw (← e) at (sym (tag c.args.self.bytes.now t))))

pub returns-else-eq : goal.returns-else-eq
returns-else-eq c =
    let t = c.args.stored.now in
    let f : c.eq.result ≡ same_bytes (c.first_byte.result ∷ []) (take 1 t) = search rules in
    let e = rw (c.first_byte.ensures, c.if-eq.false) at f in
    rw c.in-Tag.is (c.if-eq.false ∙ (rw (← e) at (sym (tag c.args.self.bytes.now t))))
