pub mod Shown
pub mod Apart
pub mod Driven
