pub mod Switch
pub mod Asked
pub mod Grants
pub mod Shown
