-- The definitions of this crate, by subject.
pub mod Header
pub mod Opened
