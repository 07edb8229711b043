pub mod First
mod Rows
pub mod Written
pub mod ReadBack
