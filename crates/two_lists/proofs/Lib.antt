-- Laws of two lists of calls.
pub mod Stepwise
pub mod Locals
pub mod Blocks
pub mod Orders
pub mod Calls
pub mod Refused
pub mod Differ
pub mod Lent
