pub mod Actions
pub mod Running
pub mod Latched
pub mod Added
pub mod Shorter
