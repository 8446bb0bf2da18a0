-- Laws of the split.
pub mod Laws
pub mod Words
