mod LineLaws
pub mod Bounds
mod WritingLaws
