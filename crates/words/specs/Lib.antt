pub mod Packing
pub mod StateLaw
