pub mod CycleCounts
pub mod HeldWords
pub mod More
pub mod Rows
pub mod Sent
pub mod Sound
