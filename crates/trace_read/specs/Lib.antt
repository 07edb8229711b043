pub mod Text
pub mod Entries
pub mod Faults
pub mod Accepted
pub mod Heads
pub mod Restrict
pub mod Line
