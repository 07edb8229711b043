pub mod Labels
pub mod Lawful
pub mod Driven
pub mod Phase
pub mod Rounds
pub mod Verdict
pub mod Laws
