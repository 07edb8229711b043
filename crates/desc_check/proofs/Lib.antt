pub mod Lists
pub mod Judged
pub mod Sound
mod Least
mod Rows
pub mod Upgraded
mod Members
mod Drafted
mod Faultless
mod SamePlan
pub mod Harmless
pub mod UpgradedTexts
