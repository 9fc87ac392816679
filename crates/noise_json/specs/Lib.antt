pub mod Documents
pub mod Json
pub mod Values
