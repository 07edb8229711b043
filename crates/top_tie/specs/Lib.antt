pub mod Joins
pub mod Holds
pub mod Laws
