-- Laws that belong to no one function.
pub mod Inside
pub mod Keys
