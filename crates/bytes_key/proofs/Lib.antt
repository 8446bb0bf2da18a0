-- Laws that belong to no one function.
pub mod Fronts
pub mod Compared
