pub mod Common
pub mod Followed
pub mod Joined
pub mod Lengths
pub mod PreMessages
pub mod Rekeys
pub mod StepLists
pub mod Unopened
