-- The definitions of this crate, by subject.
pub mod Sizes
pub mod Fields
pub mod Lent
pub mod Numbers
pub mod Laid
pub mod Packed
