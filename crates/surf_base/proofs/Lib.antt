pub mod OutsideLemmas
pub mod TakenLemmas
pub mod MemFilesLemmas
pub mod NumbersLemmas
mod Rows
pub mod Blocks
pub mod Numerals
pub mod Ended
