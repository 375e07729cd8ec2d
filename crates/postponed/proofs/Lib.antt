pub mod PowerLaws
pub mod StretchLaws
mod TurnLaws
mod ScatterLaws
