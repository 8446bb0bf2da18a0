-- Lists of calls over lent memory: each call meets its entry's promise and gets the memory as the call before left it, or slices with the same dictionary.
-- Assumes nothing.
use Rattle.std.specs.Prelude.{ℕ, ◌+◌, ◌≤◌, ◌<◌, ◌≡◌, List, [], ◌∷◌, ◌++◌, length, take, drop}
use Rattle.slices.specs.Bytes.{Bytes}
use Rattle.layout.specs.declared.Sizes.{Sizes}
use Rattle.layout.specs.Sizes.{kinds, page_bytes, list_bytes}
use Rattle.model.specs.Names.{Name}
use Rattle.model.specs.Answers.{ReadAnswer, CountAnswer}
use Rattle.model.specs.Calls.{Event, add, find, read, count, effects, Before, Issued, fresh_kinds, how_many}
use Rattle.memory.specs.Promises.{AddPost, FindPost, ReadPost, CountPost}

-- Both slices in full.
pub record Memory : Type 0 where
  pub pages : Bytes
  pub lists : Bytes

-- ---- calls in turn, newest first. `One m e z` says what one call does: it gets the memory m and leaves z

-- The calls begin with m and leave z. Each gets the memory as the call before left it.
abbrev pub InTurn : {E : Type 0} → (Memory → E → Memory → Type 0) → Memory → List E → Memory → Type 0
InTurn One m [] z = z ≡ m
InTurn One m (e ∷ es) z = (y : Memory) × InTurn One m es y × One y e z

-- The bytes that the sizes need are the same. The slices may be longer or shorter. If those of m are long enough, those of m' are too.
pub record SameDictionary (s : Sizes) (m m' : Memory) : Type 0 where
  pub pages-same : take (page_bytes s) m'.pages ≡ take (page_bytes s) m.pages
  pub lists-same : take (list_bytes s) m'.lists ≡ take (list_bytes s) m.lists

-- One call after m that brings slices with the same dictionary, and leaves z.
abbrev pub Bringing : {E : Type 0} → (Memory → E → Memory → Type 0) → Sizes → Memory → E → Memory → Type 0
Bringing One s m e z = (y : Memory) × SameDictionary s m y × One y e z

-- ---- calls with their answers

-- One call: the memory before, the call with its answer, the memory after.
abbrev pub Called : Memory → Event → Memory → Type 0
Called m (add a r) m' = AddPost m.pages m.lists a r m'.pages m'.lists
Called m (find a r) m' = FindPost m.pages m.lists a r m'.pages m'.lists
Called m (read n x r y) m' = ReadPost m.pages m.lists n x r y m'.pages m'.lists
Called m (count k r) m' = CountPost m.pages m.lists k r m'.pages m'.lists

abbrev pub Calls : Memory → List Event → Memory → Type 0
Calls m es z = InTurn Called m es z

-- Each brings slices with the dictionary as the call before left it.
abbrev pub Brings : Sizes → Memory → Event → Memory → Type 0
Brings s m e z = Bringing Called s m e z

abbrev pub Brought : Sizes → Memory → List Event → Memory → Type 0
Brought s m es z = InTurn (Brings s) m es z

-- ---- after the list

-- Demand 3's sentences on a count and a read after the list. Its calls were es, o was there before them, and they left z.
pub record Demand3After (s : Sizes) (o : Before) (es : List Event) (z : Memory) : Type 0 where
  -- A count of a kind gives how many adds of the kind had said fresh by then.
  pub counts : (k : ℕ) (r : CountAnswer) (z' : Memory) → Brings s z (count k r) z' → k < kinds → r ≡ CountAnswer.count (how_many (o.count k) k (fresh_kinds (effects es)))
  -- A read gives exactly its name for each number issued by then, if the buffer is long enough,
  pub read_name : (n : ℕ) (x y : Bytes) (r : ReadAnswer) (a : Name) (z' : Memory) → Brings s z (read n x r y) z'
      → Issued o a n (effects es) → length a.first + length a.second ≤ length x
      → (r ≡ ReadAnswer.name a.kind (length a.first) (length a.second)) × (y ≡ a.first ++ a.second ++ drop (length a.first + length a.second) x)
  -- and none for every other number.
  pub read_none : (n : ℕ) (x y : Bytes) (r : ReadAnswer) (z' : Memory) → Brings s z (read n x r y) z'
      → ((a : Name) → ¬ Issued o a n (effects es)) → (r ≡ ReadAnswer.absent) × (y ≡ x)
