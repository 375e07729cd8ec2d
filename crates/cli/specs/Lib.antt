pub mod Endings
pub mod Engines
