-- Laws of memory that stands for a state: what its words say, what an add leaves, that it stands for one state only, and the theorem on lists.
pub mod Probes
pub mod Beyond
pub mod Counts
pub mod Headers
pub mod Named
pub mod Commits
pub mod Added
pub mod Entered
pub mod Opened
pub mod One
pub mod Same
pub mod Brought
pub mod Demand3
