pub mod Corners
pub mod Draws
pub mod Sends
pub mod Summary
pub mod Held
