pub mod Takings
pub mod Writings
pub mod Tellings
pub mod Suite
