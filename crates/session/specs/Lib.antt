pub mod Refusals
pub mod Sessions
pub mod Calls
pub mod Figures
pub mod Texts
