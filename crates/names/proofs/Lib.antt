pub mod Pairs
pub mod Second
