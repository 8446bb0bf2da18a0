-- The number of each refusal in document 01's table, and the refusal of a number. Assumes nothing.
use Rattle.std.specs.Prelude.{ℕ, ◌&&◌, cond, eqb, leb, Result, Ok, Err}
use Rattle.refusals.specs.declared.Refusal.{Refusal}
use Rattle.refusals.specs.declared.UnknownRefusal.{UnknownRefusal}
use Rattle.refusals.specs.declared.Refusal.TheVariants.{BadSize, ShortMemory, Unopened, BadKind, TooLong, NotText, NoTag, ListFull, NoPage, NoBlock, ShortBuffer, HighNumber, CutForm}

abbrev pub refusal_number : Refusal → ℕ
refusal_number BadSize = 1
refusal_number ShortMemory = 2
refusal_number Unopened = 3
refusal_number BadKind = 4
refusal_number TooLong = 5
refusal_number NotText = 6
refusal_number NoTag = 7
refusal_number ListFull = 8
refusal_number NoPage = 9
refusal_number NoBlock = 10
refusal_number ShortBuffer = 11
refusal_number HighNumber = 12
refusal_number CutForm = 13

abbrev pub refusal_of : ℕ → Refusal
refusal_of n =
    cond (eqb n 1) BadSize
    (cond (eqb n 2) ShortMemory
    (cond (eqb n 3) Unopened
    (cond (eqb n 4) BadKind
    (cond (eqb n 5) TooLong
    (cond (eqb n 6) NotText
    (cond (eqb n 7) NoTag
    (cond (eqb n 8) ListFull
    (cond (eqb n 9) NoPage
    (cond (eqb n 10) NoBlock
    (cond (eqb n 11) ShortBuffer
    (cond (eqb n 12) HighNumber CutForm)))))))))))

-- The refusal of a number, if it is one's.
abbrev pub refusal_by : ℕ → Result Refusal UnknownRefusal
refusal_by n = cond (leb 1 n && leb n 13) (Ok (refusal_of n)) (Err (record { 0 = n }))
