-- The definitions of this crate, by subject.
pub mod Text
pub mod Passing
