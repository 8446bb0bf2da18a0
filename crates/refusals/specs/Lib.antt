-- The definitions of this crate, by subject.
pub mod Numbers
pub mod Checked
pub mod Written
pub mod Words
