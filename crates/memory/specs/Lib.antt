-- The definitions of this crate, by subject.
pub mod Stands
pub mod Promises
pub mod Lists
