pub mod Wires
pub mod Steps
pub mod Latches
pub mod Short
