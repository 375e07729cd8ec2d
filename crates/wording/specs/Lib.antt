pub mod Terms
pub mod Runs
