pub mod Marks
pub mod Sent
pub mod Filled
pub mod Lone
