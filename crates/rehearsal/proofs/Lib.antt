pub mod Loops
pub mod Receiving
pub mod Sending
pub mod Together
