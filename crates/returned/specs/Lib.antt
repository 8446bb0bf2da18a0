-- The definitions of this crate, by subject.
pub mod Returned
pub mod Demand3
pub mod TwoOrders
