pub mod Kept
pub mod Marked
pub mod OfDesign
