-- The laws of two lists over lent memory, from two opens. Assumes nothing.
use Prim.Native.Nat.{ℕ}
use mathlib.Core.Path.{◌≡◌, refl, sym, subst}
use mathlib.Core.Logic.{◌⊎◌}
use mathlib.Core.List.{List, [], ◌∷◌}
use mathlib.Core.Option.{Option, none, some}
use Rattle.refusals.specs.declared.Refusal.{Refusal}
use Rattle.layout.specs.declared.Sizes.{Sizes}
use Rattle.layout.specs.Sizes.{limit}
use Rattle.blocks.specs.Rule.{Grant, grants_of, block_for, granted_in, granted, number_in, block_rule}
use Rattle.model.specs.Names.{Name}
use Rattle.model.specs.Steps.{shape_refusal, checks}
use Rattle.model.specs.Calls.{Event, At, Before, nothing, Demand3}
use Rattle.memory.specs.Lists.{Memory}
use Rattle.memory.proofs.Brought.{StandsIn, runs, brought-demand-3}
use Rattle.two_lists.specs.Calls.{call_of}
use Rattle.two_lists.specs.Refused.{Refusals, HasNoPage}
use Rattle.two_lists.specs.Lent.{Opened}
use Rattle.two_lists.proofs.Calls.{nothing-looked-up}
use Rattle.two_lists.proofs.Refused.{refusals-opened}
use Rattle.two_lists.proofs.Differ.{next-same}

module _ (s : Sizes) (es : List Event) (O : Opened s es) where
  opened-demand-3 : Demand3 (nothing s) es
  opened-demand-3 = brought-demand-3 s O.pages O.lists O.begun.pages O.begun.lists O.opens es O.left O.calls

  -- What refuses each of the calls.
  pub opened-refusals : Refusals s.e (checks s) (nothing s) es
  opened-refusals =
      let S = O.opens.whole refl in
      refusals-opened Memory s (StandsIn s) O.begun O.left es (runs s O.begun O.left es O.calls) S.good.sizes S

-- ---- sizes that give the same numbers and refuse the same names

module _ (s t : Sizes) (w : s.w ≡ t.w) (b : s.b ≡ t.b) where
  block_same : (xs : List Grant) (k n : ℕ) → block_for s xs k n ≡ block_for t xs k n
  block_same xs k n = rw (w, b)

  one-more-same : (xs : List Grant) (k : ℕ) (o : Option ℕ) → granted_in s xs k o ≡ granted_in t xs k o
  one-more-same xs k none = refl
  one-more-same xs k (some g) = rw w

  number_same : (n : ℕ) (o : Option ℕ) → number_in s n o ≡ number_in t n o
  number_same n none = refl
  number_same n (some g) = rw w

  granted-same : (ks : List ℕ) → granted s ks ≡ granted t ks
  granted-same [] = refl
  granted-same (k ∷ ks) = rw (granted-same ks, block_same (granted t ks) k (grants_of k (granted t ks))) (one-more-same (granted t ks) k (block_for t (granted t ks) k (grants_of k (granted t ks))))

  rule-same : (ks : List ℕ) (k : ℕ) → block_rule s ks k ≡ block_rule t ks k
  unfolding block_rule
  rule-same ks k = rw (granted-same ks, block_same (granted t ks) k (grants_of k (granted t ks))) (number_same (grants_of k (granted t ks)) (block_for t (granted t ks) k (grants_of k (granted t ks))))

  nothing-same : nothing s ≡ nothing t
  nothing-same = λ i. record { given = λ a n. ⊥; count = λ k. 0; rule = λ ks k. rule-same ks k i }

checks-same : (s t : Sizes) → limit s ≡ limit t → checks s ≡ checks t
unfolding checks shape_refusal
checks-same s t l = λ i a. go a i
  where
    go : (a : Name) → checks s a ≡ checks t a
    go a = rw l

-- Two lists of the same calls in dictionaries with equal E, w, B and limit differ first at an add that 9 meets in one of them.
pub differ-first-at-9 : (s t : Sizes) → s.e ≡ t.e → s.w ≡ t.w → s.b ≡ t.b → limit s ≡ limit t → (es fs : List Event) → Opened s es → Opened t fs
    → (xs : List Event) (e f : Event) → At e xs es → At f xs fs → call_of e ≡ call_of f → (e ≡ f) ⊎ (HasNoPage e ⊎ HasNoPage f)
differ-first-at-9 s t E w b l es fs O P xs e f c d k =
    let before : nothing t ≡ nothing s = sym (nothing-same s t w b) in
    let D : Demand3 (nothing s) fs = subst (λ (o : Before). Demand3 o fs) before (opened-demand-3 t fs P) in
    let R₁ : Refusals s.e (checks t) (nothing t) fs = subst (λ (n : ℕ). Refusals n (checks t) (nothing t) fs) (sym E) (opened-refusals t fs P) in
    let R₂ : Refusals s.e (checks s) (nothing t) fs = subst (λ (g : Name → Option Refusal). Refusals s.e g (nothing t) fs) (sym (checks-same s t l)) R₁ in
    let R₃ : Refusals s.e (checks s) (nothing s) fs = subst (λ (o : Before). Refusals s.e (checks s) o fs) before R₂ in
    next-same s.e (checks s) (nothing s) (nothing-looked-up s) es fs (opened-demand-3 s es O) D (opened-refusals s es O) R₃ xs e f c d k
