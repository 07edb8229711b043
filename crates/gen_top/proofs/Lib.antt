pub mod Rows
pub mod ByKind
pub mod Widths
pub mod Whole
