pub mod Phases
pub mod Parts
pub mod Ways
pub mod Entries
