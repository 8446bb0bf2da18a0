-- Laws that belong to no one function.
pub mod Keys
pub mod Ends
pub mod Ascii
pub mod Legal
