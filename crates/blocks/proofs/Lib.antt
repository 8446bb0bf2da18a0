-- Laws that belong to no one function.
pub mod Steps
pub mod Pigeons
pub mod Rule
pub mod Search
pub mod Tables
pub mod Written
pub mod Unique
pub mod Answers
