-- The one computed check.
pub mod Examples
