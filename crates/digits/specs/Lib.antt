pub mod Digits
pub mod Pairs
