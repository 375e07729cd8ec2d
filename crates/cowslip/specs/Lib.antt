pub mod Refusals
pub mod Memory
pub mod Calls
pub mod Laws
