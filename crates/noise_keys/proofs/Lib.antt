pub mod Walk
pub mod Xor
