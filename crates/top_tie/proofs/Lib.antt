pub mod Joins
pub mod Fed
pub mod Right
