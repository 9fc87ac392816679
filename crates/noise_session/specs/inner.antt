-- What only private functions and proofs of this crate need: no public clause names any of it.
pub mod Halves
pub mod Filling
pub mod Partial
pub mod Places
pub mod Phases
pub mod States
