pub mod Loops
pub mod Rows
pub mod Tabled
pub mod Found
pub mod Owned
pub mod Masked
