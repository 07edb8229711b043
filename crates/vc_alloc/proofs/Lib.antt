pub mod Winners
pub mod Starts
pub mod Chosen
pub mod Wanted
pub mod Commits
pub mod Allocated
pub mod Stepping
pub mod Filled
