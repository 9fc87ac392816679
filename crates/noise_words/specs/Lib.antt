pub mod CommandLine
pub mod NextCommands
