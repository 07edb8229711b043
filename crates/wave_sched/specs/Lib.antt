pub mod Starts
pub mod Wheels
