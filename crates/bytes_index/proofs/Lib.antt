-- Laws that belong to no one function.
pub mod Place
pub mod Filled
pub mod Index
pub mod Stored
pub mod Spans
pub mod Inside
