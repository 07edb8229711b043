pub mod Together
pub mod Credits
pub mod Ported
pub mod Whole
