-- The definitions of this crate, by subject.
pub mod Names
pub mod Answers
pub mod Kinds
pub mod State
pub mod Steps
pub mod Keys
pub mod Good
pub mod Calls
pub mod Runs
pub mod Order
