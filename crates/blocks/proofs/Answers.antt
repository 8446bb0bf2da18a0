-- The words that the block rule's functions read, and the answers that follow from them: one law for each place where a function returns. Assumes nothing.
use Prim.Native.Nat.{ℕ, zero, suc, ◌+◌, ◌-◌, ◌*◌, ◌/◌, ◌%◌, ◌^◌, ◌<◌, ◌≤◌}
use mathlib.Core.Path.{◌≡◌, refl, sym, ap, ◌∙◌}
use mathlib.Core.Logic.{◌≢◌, inl, inr}
use mathlib.Core.Option.{Option, none, some}
use native.Mathlib.Nat.{mul-le-mul_right, suc-mul}
use native.Mathlib.Numerals.{add-one}
use native.Mathlib.Omega.{arith}
use borrow.Author.Tests.{eq-eqb, ne_eqb, lt-ltb, le-ltb, ltb-true}
use lib.Dec.{ltb}
use lib.Pow as Pow
use Rattle.std.specs.Prelude.{Some, None, Ok, Err}
use Rattle.slices.specs.Bytes.{Bytes}
use Rattle.slices.proofs.Tests.{Split, split}
use Rattle.words.specs.Words.{word_at, set_word}
use Rattle.layout.specs.declared.Sizes.{Sizes}
use Rattle.layout.specs.Sizes.{kinds}
use Rattle.layout.specs.Fields.{blocks_at, local_at}
use Rattle.std.specs.Prelude as Rust
use Rattle.refusals.specs.declared.Refusal.{Refusal}
use Rattle.refusals.specs.declared.Refusal.TheVariants.{Unopened}
use Rattle.blocks.specs.Blocks.{Block, Blocks, search, start, pick}
use Rattle.blocks.specs.Tables.{owner_in, BlocksAt}
use Rattle.blocks.specs.Answers.{found, allocated, AllocatedBelow, Allocates, held_by, block_written}
use Rattle.blocks.proofs.Steps.{search-free}
use Rattle.blocks.proofs.Pigeons.{begun-below, picked-below}
use Rattle.blocks.proofs.Search.{search-agree}
use Rattle.blocks.proofs.Tables.{owner-in}

-- ---- the word of a local block

pub held_none : (b x : ℕ) → x ≡ 0 → held_by b x ≡ Err Unopened
unfolding held_by
held_none b x e = ap (held_by b) e

pub held-past : (b x : ℕ) → b < x → held_by b x ≡ Err Unopened
unfolding held_by
held-past b zero h = refl
held-past b (suc x) h = rw (le-ltb x b (omega arith))

pub held-there : (b x : ℕ) → x ≢ 0 → x ≤ b → held_by b x ≡ Ok (x - 1)
unfolding held_by
held-there b zero d h = absurd (d refl)
held-there b (suc x) d h = let e : suc x - 1 ≡ x = omega arith in rw (lt-ltb x b (omega arith), e)

-- Where it names none, the memory is no dictionary's.
pub held-refused : (b x : ℕ) (why : Refusal) → held_by b x ≡ Err why → why ≡ Unopened
unfolding held_by
held-refused b zero why e = cc
held-refused b (suc x) why e = go (split (ltb x b))
  where
    go : Split (ltb x b) → why ≡ Unopened
    go (inl p) = let q : Ok x ≡ Err why = rw p at e in let z : ◌≡◌ {A = ℕ} 0 1 = cc in absurd (omega arith)
    go (inr p) = let q : Err Unopened ≡ Err why = rw p at e in cc

pub held_below : (b x g : ℕ) → held_by b x ≡ Ok g → g < b
unfolding held_by
held_below b zero g e = let z : ◌≡◌ {A = ℕ} 0 1 = cc in absurd (omega arith)
held_below b (suc x) g e = go (split (ltb x b))
  where
    go : Split (ltb x b) → g < b
    go (inl p) =
        let q : Ok x ≡ Ok g = rw p at e in
        let u : x ≡ g = cc in
        omega (arith, ltb-true x b p)
    go (inr p) = let q : Err Unopened ≡ Ok g = rw p at e in let z : ◌≡◌ {A = ℕ} 0 1 = cc in absurd (omega arith)

-- ---- memory that holds a state

module _ (s : Sizes) (b : Blocks) (lists : Bytes) (T : BlocksAt s b lists) where
  pub begun-held : (k l : ℕ) → k < kinds → l * 2 ^ s.w < b.next k → held_by s.b (word_at lists (local_at s k l)) ≡ Ok (b.block_of k l)
  unfolding held_by
  begun-held k l h g =
      let low : l < s.b = begun-below s.w s.b b k l T.sound T.below g in
      let far : b.block_of k l < s.b = T.below (b.block_of k l) k l (T.sound.there k l g) in
      ap (held_by s.b) (T.locals k l h low) ∙ rw (lt-ltb (l * 2 ^ s.w) (b.next k) g, add-one, lt-ltb (b.block_of k l) s.b far)

  begins-pick : (k n : ℕ) → b.next k ≡ n → n % 2 ^ s.w ≡ 0
      → pick s b k ≡ search (owner_in lists (blocks_at s kinds)) (start b k (n / 2 ^ s.w)) (s.b - start b k (n / 2 ^ s.w))
  unfolding pick
  begins-pick k n e z =
      let from : ℕ = start b k (n / 2 ^ s.w) in
      rw (e, eq-eqb (n % 2 ^ s.w) zero z)
      (search-agree b.owner (owner_in lists (blocks_at s kinds)) from (s.b - from) (λ i f g. sym (owner-in s b lists T i (omega arith))))

  goes-on-pick : (k n : ℕ) → b.next k ≡ n → n % 2 ^ s.w ≢ 0 → pick s b k ≡ some (b.block_of k (n / 2 ^ s.w))
  unfolding pick
  goes-on-pick k n e d = rw (e, ne_eqb (n % 2 ^ s.w) zero d)

  past-pick : (k n : ℕ) → b.next k ≡ n → s.b ≤ n / 2 ^ s.w → pick s b k ≡ none
  past-pick k n e h = go (pick s b k) refl
    where
      go : (o : Option ℕ) → pick s b k ≡ o → o ≡ none
      go none p = refl
      go (some g) p = let f : n / 2 ^ s.w < s.b = rw (← e) (picked-below s b k g T.sound T.below p) in absurd (omega arith)

start-next : (b : Blocks) (k l : ℕ) → l ≢ 0 → start b k l ≡ b.block_of k (l - 1) + (l - 1)
start-next b k zero d = absurd (d refl)
start-next b k (suc l) d = let e : suc l - 1 ≡ l = omega arith in rw e

-- A local block before one that begins is begun.
before-begun : (w n : ℕ) → n / 2 ^ w ≢ 0 → (n / 2 ^ w - 1) * 2 ^ w < n
before-begun w n d =
    let l : ℕ = n / 2 ^ w in
    let a : suc (l - 1) * 2 ^ w ≤ l * 2 ^ w = mul-le-mul_right (2 ^ w) (omega arith) in
    omega (arith, suc-mul (l - 1) (2 ^ w), Pow.split n w, Pow.pow_pos w)

-- ---- take_block

pub written_is : (s : Sizes) (lists : Bytes) (k n g size : ℕ) {at end : ℕ} {x y : Bytes} → size ≡ 2 ^ s.w → at ≡ blocks_at s k → end ≡ blocks_at s kinds
    → x ≡ set_word lists (at + n / size) (g + 1) → y ≡ set_word x (end + g) (1 + k + 16 * (n / size)) → y ≡ block_written s lists k n g
unfolding block_written
written_is s lists k n g size {at} {end} Z p q d e =
    e ∙ ap (λ (t : Bytes). set_word t (end + g) (1 + k + 16 * (n / size))) d ∙ rw (Z, p, q)

-- ---- allocate_block

search-below : (t : ℕ → Block) (f b l : ℕ) (o : Option ℕ) → search t f (b - f) ≡ o → l < b → AllocatedBelow b l (allocated o)
search-below t f b l none e h = tt
search-below t f b l (some g) e h = let r = search-free t f (b - f) g e in (omega (arith, r.1, r.2), h)

module _ (s : Sizes) (lists : Bytes) (k n size : ℕ) (h : k < kinds) (Z : size ≡ 2 ^ s.w) where
  abbrev word : ℕ → ℕ
  word l = word_at lists (local_at s k l)

  pub allocates-past : s.b ≤ n / size → Allocates s lists k n (Ok None)
  allocates-past f =
      let g : s.b ≤ n / 2 ^ s.w = rw Z at f in
      record { range = tt; right = λ b T e. ap allocated (sym (past-pick s b lists T k n e g)) }

  pub allocates-held : (g : ℕ) → n / size < s.b → n % size ≢ 0 → held_by s.b (word (n / size)) ≡ Ok g → Allocates s lists k n (Ok (Some g))
  allocates-held g f d e =
      let d' : n % 2 ^ s.w ≢ 0 = rw Z at d in
      let e' : held_by s.b (word (n / 2 ^ s.w)) ≡ Ok g = rw Z at e in
      record {
        range = (held_below s.b (word (n / size)) g e, rw Z at f);
        right = λ b T p.
            let u : Ok (b.block_of k (n / 2 ^ s.w)) ≡ Ok g =
            sym (begun-held s b lists T k (n / 2 ^ s.w) h (omega (arith, Pow.split n s.w))) ∙ e' in
            let v : g ≡ b.block_of k (n / 2 ^ s.w) = cc in
            ap (λ (x : ℕ). Ok (Some x)) v ∙ ap allocated (sym (goes-on-pick s b lists T k n p d'));
      }

  pub allocates-bad : (why : Refusal) → n % size ≢ 0 → held_by s.b (word (n / size)) ≡ Err why → Allocates s lists k n (Err why)
  allocates-bad why d e =
      let d' : n % 2 ^ s.w ≢ 0 = rw Z at d in
      let e' : held_by s.b (word (n / 2 ^ s.w)) ≡ Err why = rw Z at e in
      record {
        range = held-refused _ _ why e;
        right = λ b T p.
            let u : Ok (b.block_of k (n / 2 ^ s.w)) ≡ Err why =
            sym (begun-held s b lists T k (n / 2 ^ s.w) h (omega (arith, Pow.split n s.w))) ∙ e' in
            let z : ◌≡◌ {A = ℕ} 0 1 = cc in absurd (omega arith);
      }

  pub allocates-first : (r : Rust.Option ℕ) → n / size < s.b → n % size ≡ 0 → n / size ≡ 0
      → r ≡ found (search (owner_in lists (blocks_at s kinds)) 0 (s.b - 0)) → Allocates s lists k n (Ok r)
  allocates-first r f z l e =
      let z' : n % 2 ^ s.w ≡ 0 = rw Z at z in
      let l' : n / 2 ^ s.w ≡ 0 = rw Z at l in
      record {
        range = rw e (search-below (owner_in lists (blocks_at s kinds)) 0 s.b (n / 2 ^ s.w) _ refl (rw Z at f));
        right = λ b T p.
            let q : start b k (n / 2 ^ s.w) ≡ 0 = rw l' in
            ap Ok e ∙ ap allocated (sym (rw q at (begins-pick s b lists T k n p z')));
      }

  pub allocates-next : (r : Rust.Option ℕ) (g : ℕ) → n / size < s.b → n % size ≡ 0 → n / size ≢ 0
      → held_by s.b (word (n / size - 1)) ≡ Ok g
      → r ≡ found (search (owner_in lists (blocks_at s kinds)) (g + (n / size - 1)) (s.b - (g + (n / size - 1))))
      → Allocates s lists k n (Ok r)
  allocates-next r g f z l o e =
      let z' : n % 2 ^ s.w ≡ 0 = rw Z at z in
      let l' : n / 2 ^ s.w ≢ 0 = rw Z at l in
      let o' : held_by s.b (word (n / 2 ^ s.w - 1)) ≡ Ok g = rw Z at o in
      let from : ℕ = g + (n / 2 ^ s.w - 1) in
      let e' : r ≡ found (search (owner_in lists (blocks_at s kinds)) from (s.b - from)) = rw Z at e in
      record {
        range = rw e' (search-below (owner_in lists (blocks_at s kinds)) from s.b (n / 2 ^ s.w) _ refl (rw Z at f));
        right = λ b T p.
            let u : Ok (b.block_of k (n / 2 ^ s.w - 1)) ≡ Ok g =
            sym (begun-held s b lists T k (n / 2 ^ s.w - 1) h (rw p (before-begun s.w n l'))) ∙ o' in
            let v : b.block_of k (n / 2 ^ s.w - 1) ≡ g = cc in
            let q : start b k (n / 2 ^ s.w) ≡ from = start-next b k (n / 2 ^ s.w) l' ∙ rw v in
            ap Ok e' ∙ ap allocated (sym (rw q at (begins-pick s b lists T k n p z')));
      }

  pub allocates-bad-before : (why : Refusal) → n / size ≢ 0 → held_by s.b (word (n / size - 1)) ≡ Err why → Allocates s lists k n (Err why)
  allocates-bad-before why l e =
      let l' : n / 2 ^ s.w ≢ 0 = rw Z at l in
      let e' : held_by s.b (word (n / 2 ^ s.w - 1)) ≡ Err why = rw Z at e in
      record {
        range = held-refused _ _ why e;
        right = λ b T p.
            let u : Ok (b.block_of k (n / 2 ^ s.w - 1)) ≡ Err why =
            sym (begun-held s b lists T k (n / 2 ^ s.w - 1) h (rw p (before-begun s.w n l'))) ∙ e' in
            let z : ◌≡◌ {A = ℕ} 0 1 = cc in absurd (omega arith);
      }
