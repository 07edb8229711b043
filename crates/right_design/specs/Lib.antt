pub mod Alike
pub mod Driven
pub mod Laws
