-- The definitions of this crate, by subject.
pub mod Pages
pub mod Spots
pub mod Tables
