pub mod Feed
pub mod Cycle
pub mod Going
