-- Laws that belong to no one function.
pub mod Tells
pub mod Counts
