pub mod Entries
pub mod Digests
pub mod Feeding
pub mod Figures
