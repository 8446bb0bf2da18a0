-- Laws of the state and its steps, and the theorem on lists of calls.
pub mod Table
pub mod Legal
pub mod Names
pub mod Decide
pub mod Lengths
pub mod Forms
pub mod Parts
pub mod Keys
pub mod Pages
pub mod Good
pub mod Numbers
pub mod Unique
pub mod Effects
pub mod Order
pub mod Lists
pub mod Never
