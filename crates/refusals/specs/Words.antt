-- The word of each refusal in document 01's table, as it is printed. Assumes nothing.
use Rattle.std.specs.Prelude.{ℕ, List, codes}
use Rattle.refusals.specs.declared.Refusal.{Refusal}
use Rattle.refusals.specs.declared.Refusal.TheVariants.{BadSize, ShortMemory, Unopened, BadKind, TooLong, NotText, NoTag, ListFull, NoPage, NoBlock, ShortBuffer, HighNumber, CutForm}

abbrev pub refusal_words : Refusal → List ℕ
refusal_words BadSize = codes "bad size"
refusal_words ShortMemory = codes "short memory"
refusal_words Unopened = codes "unopened"
refusal_words BadKind = codes "bad kind"
refusal_words TooLong = codes "too long"
refusal_words NotText = codes "not text"
refusal_words NoTag = codes "no tag"
refusal_words ListFull = codes "list full"
refusal_words NoPage = codes "no page"
refusal_words NoBlock = codes "no block"
refusal_words ShortBuffer = codes "short buffer"
refusal_words HighNumber = codes "high number"
refusal_words CutForm = codes "cut form"
