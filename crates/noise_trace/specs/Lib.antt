pub mod Directions
pub mod EndFollowing
pub mod Following
pub mod KeyUses
pub mod Start
pub mod Steps
pub mod Values
pub mod inner
