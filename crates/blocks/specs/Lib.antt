-- The definitions of this crate, by subject.
pub mod Blocks
pub mod Rule
pub mod Sound
pub mod Tables
pub mod Answers
