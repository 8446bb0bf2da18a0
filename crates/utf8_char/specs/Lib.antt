-- The definitions of this crate, by subject.
pub mod Grammar
pub mod Text
pub mod Ends
