-- The definitions of this crate, by subject.
pub mod Orders
pub mod Calls
pub mod Refused
pub mod Lent
