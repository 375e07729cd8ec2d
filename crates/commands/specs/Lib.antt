pub mod Refusals
pub mod Lines
pub mod Writing
pub mod Figures
