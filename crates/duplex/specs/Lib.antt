pub mod State
pub mod Strings
pub mod Bytes
pub mod Figures
