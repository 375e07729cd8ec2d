pub mod Kinds
pub mod Frames
pub mod Sender
pub mod Refusals
pub mod Calls
pub mod Figures
pub mod Texts
