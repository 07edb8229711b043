pub mod TextLemmas
pub mod FaultLemmas
pub mod TraceLemmas
mod Rows
