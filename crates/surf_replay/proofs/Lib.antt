pub mod Feeding
pub mod Numbered
pub mod Fed
pub mod Cycles
