-- The definitions of this crate, by subject.
pub mod Written
pub mod Store
pub mod Reading
pub mod Ready
