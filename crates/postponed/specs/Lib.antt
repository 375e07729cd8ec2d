pub mod Powers
pub mod Stretch
pub mod Meaning
pub mod Rows
