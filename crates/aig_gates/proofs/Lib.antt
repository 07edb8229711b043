pub mod Inserted
pub mod Rippled
pub mod Zipped
pub mod Rows
