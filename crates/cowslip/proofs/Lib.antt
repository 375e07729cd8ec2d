pub mod MemoryLaws
pub mod CallLaws
