pub mod Replies
pub mod Runs
pub mod Example
