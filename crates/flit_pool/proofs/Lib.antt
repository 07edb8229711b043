pub mod Chains
pub mod Sums
pub mod Push
pub mod Pop
pub mod Views
pub mod New
pub mod Rings
pub mod Members
