-- The numbers of the kinds and of the dictionaries are below how many there are. Assumes nothing.
use Prim.Native.Nat.{◌<◌}
use native.Mathlib.Omega.{arith}
use Rattle.layout.specs.Sizes.{kinds, dictionaries}
use Rattle.layout.specs.Numbers.{kind_number, dictionary_number}
use Rattle.layout.specs.declared.Kind.{Kind}
use Rattle.layout.specs.declared.Kind.TheVariants.{Iri, Plain, Tagged, Typed}
use Rattle.layout.specs.declared.Dictionary.{Dictionary}
use Rattle.layout.specs.declared.Dictionary.TheVariants.{IriHeads, Iris, PlainStrings, TaggedStrings, TypedHeads, TypedValues}

pub kind-below : (k : Kind) → kind_number k < kinds
kind-below Iri = omega arith
kind-below Plain = omega arith
kind-below Tagged = omega arith
kind-below Typed = omega arith

pub dictionary-below : (d : Dictionary) → dictionary_number d < dictionaries
dictionary-below IriHeads = omega arith
dictionary-below Iris = omega arith
dictionary-below PlainStrings = omega arith
dictionary-below TaggedStrings = omega arith
dictionary-below TypedHeads = omega arith
dictionary-below TypedValues = omega arith
