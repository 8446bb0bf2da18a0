-- Laws that belong to no one function.
pub mod Escapes
pub mod Text
pub mod Laws
pub mod PackedParts
pub mod Splits
