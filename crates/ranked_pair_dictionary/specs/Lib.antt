-- The definitions of this crate, by subject.
pub mod FrequentId
pub mod Lead
