pub mod Hkdf
pub mod Keyed
pub mod Vectors
