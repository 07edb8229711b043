pub mod Ripple
pub mod Zips
pub mod Memory
