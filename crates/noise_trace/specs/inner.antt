-- What only private functions and proofs of this crate need: no public clause names any of it.
pub mod PreMessages
pub mod StepLists
