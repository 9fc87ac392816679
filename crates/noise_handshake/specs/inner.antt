-- What only private functions and proofs of this crate need: no public clause names any of it.
pub mod Following
pub mod Kept
pub mod Keyed
pub mod Known
pub mod Layout
pub mod Listening
pub mod Means
pub mod Parts
pub mod PreMessage
pub mod Reading
pub mod Sound
pub mod Speaking
pub mod Stepping
pub mod Writing
