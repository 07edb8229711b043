pub mod Queue
pub mod Shown
