pub mod Ways
pub mod Chained
