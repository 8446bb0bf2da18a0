-- The definitions of this crate, by subject.
pub mod Packed
pub mod Answers
