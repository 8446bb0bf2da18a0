-- The definitions of this crate, by subject.
pub mod Place
pub mod Filled
pub mod Entries
pub mod Field
pub mod Search
