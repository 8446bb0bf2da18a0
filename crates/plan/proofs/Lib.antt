-- Laws of a plan: what it says as a whole.
pub mod Plans
