pub mod Fifo
pub mod Sizes
pub mod Buffer
pub mod Laws
