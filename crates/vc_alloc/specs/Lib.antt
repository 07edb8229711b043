pub mod Allocator
pub mod Chosen
pub mod Shown
pub mod Progress
pub mod Commits
