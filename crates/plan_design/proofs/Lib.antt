pub mod Credits
pub mod Held
pub mod Whole
