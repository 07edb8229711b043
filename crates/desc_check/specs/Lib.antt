pub mod Words
pub mod Network
pub mod Faults
pub mod Accepted
pub mod Line
pub mod Upgrade
