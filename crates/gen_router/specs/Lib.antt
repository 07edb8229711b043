pub mod Ordered
pub mod Given
pub mod Outs
pub mod Ports
