pub mod SessionLaws
pub mod Differences
