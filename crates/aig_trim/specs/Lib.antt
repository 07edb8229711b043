pub mod Marks
pub mod Trimmed
