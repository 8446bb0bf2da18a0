-- Laws of the frequent id.
pub mod Laws
