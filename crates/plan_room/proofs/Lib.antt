-- Laws of the steps of a plan: what they answer.
pub mod Steps
