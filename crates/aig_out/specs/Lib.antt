pub mod Forms
pub mod Ran
pub mod Laws
