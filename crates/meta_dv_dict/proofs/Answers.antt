-- The words that the conversions read, and the answers that follow from them: one law for each place where a function returns. Assumes nothing.
use Prim.Native.Nat.{ℕ, zero, suc, ◌+◌, ◌-◌, ◌*◌, ◌/◌, ◌%◌, ◌^◌, ◌<◌, ◌≤◌}
use mathlib.Core.Path.{◌≡◌, refl, sym, ap, ◌∙◌}
use mathlib.Core.Logic.{◌≢◌}
use native.Mathlib.Nat.{mod-lt}
use native.Mathlib.Omega.{arith}
use lib.Pow as Pow
use Rattle.std.specs.Prelude.{Some, None, Ok, Err}
use Rattle.slices.specs.Bytes.{Bytes}
use Rattle.words.specs.Words.{word_at}
use Rattle.layout.specs.declared.Sizes.{Sizes}
use Rattle.layout.specs.Sizes.{kinds}
use Rattle.layout.specs.declared.Kind.{Kind}
use Rattle.layout.specs.Numbers.{kind_number}
use Rattle.layout.specs.Fields.{local_at, global_at}
use Rattle.refusals.specs.declared.Refusal.{Refusal}
use Rattle.refusals.specs.declared.Refusal.TheVariants.{Unopened}
use Rattle.blocks.specs.Blocks.{Block, held, Blocks}
use Rattle.blocks.specs.Tables.{word_owner, owner_in, BlocksAt}
use Rattle.blocks.specs.Answers.{held_by}
use Rattle.blocks.proofs.Pigeons.{begun-below}
use Rattle.blocks.proofs.Tables.{owner-in}
use Rattle.blocks.proofs.Answers.{held-refused, held_below, begun-held}
use Rattle.meta_dv_dict.specs.Answers.{Globals, owned_by, Locals}
use Rattle.meta_dv_dict.proofs.Numbers.{in-begun}

-- ---- local_to_global

module _ (s : Sizes) (lists : Bytes) (k n size : ℕ) (h : k < kinds) (Z : size ≡ 2 ^ s.w) where
  abbrev word : ℕ → ℕ
  word l = word_at lists (local_at s k l)

  pub globals-past : s.b ≤ n / size → Globals s lists k n (Err Unopened)
  globals-past f =
      let g : s.b ≤ n / 2 ^ s.w = rw Z at f in
      record {
        range = refl;
        right = λ b T e. absurd (omega (arith, begun-below s.w s.b b k (n / 2 ^ s.w) T.sound T.below (in-begun s.w n _ e)));
      }

  pub globals-bad : (why : Refusal) → held_by s.b (word (n / size)) ≡ Err why → Globals s lists k n (Err why)
  globals-bad why e =
      let e' : held_by s.b (word (n / 2 ^ s.w)) ≡ Err why = rw Z at e in
      record {
        range = held-refused _ _ why e;
        right = λ b T p.
            let u : Ok (b.block_of k (n / 2 ^ s.w)) ≡ Err why =
            sym (begun-held s b lists T k (n / 2 ^ s.w) h (in-begun s.w n _ p)) ∙ e' in
            let z : ◌≡◌ {A = ℕ} 0 1 = cc in absurd (omega arith);
      }

  pub globals-there : (g : ℕ) → held_by s.b (word (n / size)) ≡ Ok g → Globals s lists k n (Ok (record { 0 = g * size + n % size }))
  globals-there g e =
      let e' : held_by s.b (word (n / 2 ^ s.w)) ≡ Ok g = rw Z at e in
      let lt : n % 2 ^ s.w < 2 ^ s.w = mod-lt n (Pow.pow_pos s.w) in
      record {
        range = rw (Z, Pow.high g s.w lt) (held_below s.b (word (n / size)) g e);
        right = λ b T p.
            let u : Ok (b.block_of k (n / 2 ^ s.w)) ≡ Ok g =
            sym (begun-held s b lists T k (n / 2 ^ s.w) h (in-begun s.w n _ p)) ∙ e' in
            let v : g ≡ b.block_of k (n / 2 ^ s.w) = cc in
            rw (Z, v);
      }

-- ---- global_to_local

module _ (s : Sizes) (b : Blocks) (lists : Bytes) (T : BlocksAt s b lists) where
  -- The owner that a block's word names.
  named : (g x : ℕ) → g < s.b → word_at lists (global_at s g) ≡ x → x ≢ 0 → b.owner g ≡ held ((x - 1) % 16) ((x - 1) / 16)
  unfolding owner_in
  named g zero h e d = absurd (d refl)
  named g (suc x) h e d =
      let p : suc x - 1 ≡ x = omega arith in
      rw p (sym (owner-in s b lists T g h) ∙ ap word_owner e)

module _ (s : Sizes) (lists : Bytes) (n size : ℕ) (Z : size ≡ 2 ^ s.w) where
  module _ (x : ℕ) (f : n / size < s.b) (e : word_at lists (global_at s (n / size)) ≡ x) where
    pub locals-free : x ≡ 0 → Locals s lists n (Ok None)
    unfolding owner_in
    locals-free z =
        let f' : n / 2 ^ s.w < s.b = rw Z at f in
        let e' : word_at lists (global_at s (n / 2 ^ s.w)) ≡ x = rw Z at e in
        record {
          range = tt;
          right = λ b T. ap (λ (o : Block). Ok (owned_by s.w n o)) (sym (ap word_owner (e' ∙ z)) ∙ owner-in s b lists T (n / 2 ^ s.w) f');
        }

    owner : (b : Blocks) → BlocksAt s b lists → x ≢ 0 → b.owner (n / 2 ^ s.w) ≡ held ((x - 1) % 16) ((x - 1) / 16)
    owner b T d = named s b lists T (n / 2 ^ s.w) x (rw Z at f) (rw Z at e) d

    pub locals-bad-kind : x ≢ 0 → kinds ≤ (x - 1) % 16 → Locals s lists n (Err Unopened)
    locals-bad-kind d h = record {
      range = refl;
      right = λ b T. absurd (omega (arith, T.kind (n / 2 ^ s.w) _ _ (owner b T d)));
    }

    pub locals-bad-block : x ≢ 0 → s.b ≤ (x - 1) / 16 → Locals s lists n (Err Unopened)
    locals-bad-block d h = record {
      range = refl;
      right = λ b T.
          let r = T.sound.back (n / 2 ^ s.w) _ _ (owner b T d) in
          absurd (omega (arith, begun-below s.w s.b b _ ((x - 1) / 16) T.sound T.below r.0));
    }

    pub locals-held : (kind : Kind) → x ≢ 0 → kind_number kind ≡ (x - 1) % 16 → (x - 1) / 16 < s.b
        → Locals s lists n (Ok (Some (record { kind = kind; local = record { 0 = (x - 1) / 16 * size + n % size } })))
    locals-held kind d e g =
        let lt : n % 2 ^ s.w < 2 ^ s.w = mod-lt n (Pow.pow_pos s.w) in
        record {
          range = rw (Z, Pow.high ((x - 1) / 16) s.w lt) g;
          right = λ b T. rw (Z, owner b T d, e) refl;
        }
