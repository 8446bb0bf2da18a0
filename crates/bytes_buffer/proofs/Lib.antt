-- Laws that belong to no one function.
pub mod Spots
pub mod Pages
pub mod Tables
pub mod Plans
pub mod Steps
pub mod Commits
