-- Laws that belong to no one function.
pub mod Calls
pub mod Demand3
pub mod TwoOrders
