-- Laws that belong to no one function.
pub mod Ranges
pub mod Places
pub mod Numbers
