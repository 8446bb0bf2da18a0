-- Laws that belong to no one function.
pub mod Tests
pub mod Sets
pub mod Bytes
