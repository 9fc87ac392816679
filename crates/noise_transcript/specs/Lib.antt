pub mod Fitting
pub mod Talked
