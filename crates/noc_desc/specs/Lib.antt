pub mod Keys
pub mod Values
pub mod Faults
pub mod Draft
pub mod Document
