-- The definitions of this crate, by subject.
pub mod Copied
pub mod Located
