pub mod Chains
pub mod Tails
