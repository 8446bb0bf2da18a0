-- Laws that belong to no one function.
pub mod Laws
pub mod Writes
pub mod Answers
pub mod Keys
