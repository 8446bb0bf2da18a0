-- The definitions of this crate, by subject.
pub mod Forms
pub mod Scans
pub mod Pieces
