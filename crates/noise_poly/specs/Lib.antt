pub mod Limbs
pub mod Numbers
pub mod Poly
pub mod State
pub mod Vectors
