-- The definitions of this crate, by subject.
pub mod Numbers
pub mod Answers
