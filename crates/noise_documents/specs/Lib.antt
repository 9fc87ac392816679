pub mod Comparison
