-- Laws that belong to no one function.
pub mod Ascii
pub mod Runs
