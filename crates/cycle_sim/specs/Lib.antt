pub mod Net
pub mod Links
pub mod TileCycle
pub mod Attached
pub mod Asleep
pub mod Near
