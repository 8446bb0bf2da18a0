-- Each answer of read, and what it leaves in the buffer, is as promised. Assumes nothing.
use Prim.Native.Nat.{ℕ, ◌+◌, ◌<◌, ◌≤◌}
use mathlib.Core.Path.{◌≡◌, refl, ap, ◌∙◌}
use mathlib.Core.Logic.{inl, inr}
use mathlib.Core.List.{◌++◌, append_assoc}
use mathlib.Core.Option.{Option, none, some}
use native.Mathlib.Omega.{arith}
use borrow.Author.Tests.{le-leb, lt-leb}
use lib.ListN.{length, drop, length-append, length-drop}
use lib.Seq.{drop_at}
use Rattle.std.specs.Prelude.{Some, None, Ok, Err}
use Rattle.slices.specs.Bytes.{Bytes}
use Rattle.refusals.specs.declared.Refusal.{Refusal}
use Rattle.refusals.specs.declared.Refusal.TheVariants.{Unopened, ShortBuffer}
use Rattle.layout.specs.declared.Sizes.{Sizes}
use Rattle.layout.specs.Numbers.{kind_number}
use Rattle.layout.proofs.Numbers.{kind-below}
use Rattle.header.specs.Header.{header_of}
use Rattle.model.specs.Names.{Name, size}
use Rattle.model.specs.Answers.{ReadAnswer}
use Rattle.model.specs.State.{State, name_of}
use Rattle.model.specs.Steps.{read_by, buffer_by}
use Rattle.memory.specs.Stands.{Stands}
use Rattle.memory.specs.Promises.{ReadPost}
use Rattle.locate.specs.declared.pieces.Pieces.{Pieces}
use Rattle.locate.specs.Copied.{pieces_in}
use Rattle.locate.specs.Located.{Tells, LocatesName}
use Rattle.memory.proofs.Headers.{header-refused, no-state, not-always, one-sizes}

pub read-unopened : (pages lists : Bytes) (number : ℕ) (x : Bytes) (why : Refusal) → header_of (length pages) lists ≡ Err why
    → ReadPost pages lists number x (ReadAnswer.refused why) x pages lists
read-unopened pages lists number x why e =
    let q : why ≡ Unopened = header-refused (length pages) lists e in
    record {
      unopened = λ u. ap ReadAnswer.refused q;
      bounded = inl q;
      buffer-length = refl;
      kept = (refl, refl);
      buffer-kept = λ f. refl;
      whole = λ s st S. absurd (no-state pages lists e s st S);
    }

module _ (pages lists : Bytes) (s : Sizes) (e : header_of (length pages) lists ≡ Ok s) (number : ℕ) (x : Bytes) where
  -- The answer is right for every state that the memory stands for, if it is right for the name that the number has there.
  told : (r : ReadAnswer) (y : Bytes) (P : Option Name → Type 0) → ((o : Option Name) → P o → (r ≡ read_by x o) × (y ≡ buffer_by x o))
      → ((st : State) → Stands s st pages lists → P (name_of s st number))
      → (t : Sizes) (st : State) → Stands t st pages lists → (r ≡ read_by x (name_of t st number)) × (y ≡ buffer_by x (name_of t st number))
  told r y P f h t st S =
      let q : t ≡ s = one-sizes pages lists s e t st S in
      rw q (f (name_of s st number) (h st (rw q at S)))

  pub read_none : LocatesName s pages lists number (Ok None) → ReadPost pages lists number x ReadAnswer.absent x pages lists
  read_none h =
      record {
        unopened = λ u. absurd (not-always pages lists s e u);
        bounded = tt;
        buffer-length = refl;
        kept = (refl, refl);
        buffer-kept = λ f. refl;
        whole = told ReadAnswer.absent x (λ o. Tells o (Ok None)) go h.right;
      }
    where
      go : (o : Option Name) → Tells o (Ok None) → (ReadAnswer.absent ≡ read_by x o) × (x ≡ buffer_by x o)
      go none p = (refl, refl)
      go (some a) p = absurd p

  pub read-bad : (why : Refusal) → LocatesName s pages lists number (Err why) → ReadPost pages lists number x (ReadAnswer.refused why) x pages lists
  read-bad why h =
      record {
        unopened = λ u. absurd (not-always pages lists s e u);
        bounded = inl h.range;
        buffer-length = refl;
        kept = (refl, refl);
        buffer-kept = λ f. refl;
        whole = told (ReadAnswer.refused why) x (λ o. Tells o (Err why)) go h.right;
      }
    where
      go : (o : Option Name) → Tells o (Err why) → (ReadAnswer.refused why ≡ read_by x o) × (x ≡ buffer_by x o)
      go none p = absurd p
      go (some a) p = absurd p

  module _ (q : Pieces) (h : LocatesName s pages lists number (Ok (Some q))) where
    pub read_short : length x < q.told.first + q.told.second → ReadPost pages lists number x (ReadAnswer.refused ShortBuffer) x pages lists
    read_short l =
        record {
          unopened = λ u. absurd (not-always pages lists s e u);
          bounded = inr refl;
          buffer-length = refl;
          kept = (refl, refl);
          buffer-kept = λ f. refl;
          whole = told (ReadAnswer.refused ShortBuffer) x (λ o. Tells o (Ok (Some q))) go h.right;
        }
      where
        go : (o : Option Name) → Tells o (Ok (Some q)) → (ReadAnswer.refused ShortBuffer ≡ read_by x o) × (x ≡ buffer_by x o)
        go none p = absurd p
        go (some a) p =
            let t : length x < size a = omega (arith, p.first, p.second) in
            rw (lt-leb (size a) (length x) t) (refl, refl)

    pub read_name : q.told.first + q.told.second ≤ length x → (y : Bytes) → y ≡ pieces_in q ++ drop (q.told.first + q.told.second) x
        → ReadPost pages lists number x (ReadAnswer.name (kind_number q.told.kind) q.told.first q.told.second) y pages lists
    read_name l y w =
        record {
          unopened = λ u. absurd (not-always pages lists s e u);
          bounded = (kind-below q.told.kind, l, rw w (drop_at (pieces_in q) _ _ q.lengths));
          buffer-length = rw w (simp (length-append, length-drop) (omega (arith, simp length-append at q.lengths)));
          kept = (refl, refl);
          buffer-kept = λ f. absurd (f _ _ _ refl);
          whole = told (ReadAnswer.name (kind_number q.told.kind) q.told.first q.told.second) y (λ o. Tells o (Ok (Some q))) go h.right;
        }
      where
        go : (o : Option Name) → Tells o (Ok (Some q)) → (ReadAnswer.name (kind_number q.told.kind) q.told.first q.told.second ≡ read_by x o) × (y ≡ buffer_by x o)
        go none p = absurd p
        go (some a) p =
            let t : size a ≤ length x = omega (arith, p.first, p.second) in
            rw (le-leb (size a) (length x) t) (
              rw (p.kind, p.first, p.second),
              w ∙ rw (p.bytes, p.first, p.second, append_assoc),
            )
