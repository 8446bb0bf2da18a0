-- Laws that belong to no one function.
pub mod Bounds
pub mod Grammar
pub mod Laws
