-- The definitions of this crate, by subject.
pub mod Found
pub mod Sought
