pub mod View
pub mod Gives
pub mod Picks
pub mod Lists
pub mod Parts
