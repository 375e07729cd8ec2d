pub mod Law
pub mod Rehearsals
