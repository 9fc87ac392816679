pub mod Cuts
pub mod DatagramEvents
pub mod Events
pub mod Windows
