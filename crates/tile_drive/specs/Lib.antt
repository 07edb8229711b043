pub mod Order
pub mod Seen
pub mod SeenEvents
pub mod TraceDriver
pub mod Scripts
