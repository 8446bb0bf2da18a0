-- The numbers of the kinds and of the dictionaries, by document 01. Assumes nothing.
use Rattle.std.specs.Prelude.{ℕ, cond, eqb, Result, Ok, Err}
use Rattle.layout.specs.declared.Kind.{Kind}
use Rattle.layout.specs.declared.Kind.TheVariants.{Iri, Plain, Tagged, Typed}
use Rattle.layout.specs.declared.UnknownKind.{UnknownKind}
use Rattle.layout.specs.declared.Dictionary.{Dictionary}
use Rattle.layout.specs.declared.Dictionary.TheVariants.{IriHeads, Iris, PlainStrings, TaggedStrings, TypedHeads, TypedValues}

abbrev pub kind_number : Kind → ℕ
kind_number Iri = 0
kind_number Plain = 1
kind_number Tagged = 2
kind_number Typed = 3

-- The kind of a number, if it is one's.
abbrev pub kind_by : ℕ → Result Kind UnknownKind
kind_by n = cond (eqb n 0) (Ok Iri) (cond (eqb n 1) (Ok Plain) (cond (eqb n 2) (Ok Tagged) (cond (eqb n 3) (Ok Typed) (Err (record { 0 = n })))))

abbrev pub dictionary_number : Dictionary → ℕ
dictionary_number IriHeads = 0
dictionary_number Iris = 1
dictionary_number PlainStrings = 2
dictionary_number TaggedStrings = 3
dictionary_number TypedHeads = 4
dictionary_number TypedValues = 5
