pub mod Cuts
pub mod Lies
pub mod Pairs
pub mod Strings
pub mod Numbers
