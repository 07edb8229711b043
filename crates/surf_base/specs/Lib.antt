pub mod Outside
pub mod Taken
pub mod Script
pub mod HeldIn
pub mod MemFiles
pub mod Numbers
pub mod Block
