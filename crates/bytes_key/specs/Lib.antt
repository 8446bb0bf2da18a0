-- The definitions of this crate, by subject.
pub mod Keys
pub mod KeyBytes
