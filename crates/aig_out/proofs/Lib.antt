pub mod Lines
pub mod Ran
