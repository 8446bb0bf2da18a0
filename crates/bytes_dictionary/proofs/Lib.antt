-- Laws that belong to no one function.
pub mod Updates
pub mod Frame
pub mod More
pub mod Reading
pub mod Looked
pub mod Written
pub mod Steps
pub mod Rooms
pub mod Grow
pub mod Empty
pub mod Beside
pub mod Header
pub mod Agree
pub mod Store
pub mod One
