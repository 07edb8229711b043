pub mod Following
pub mod InOrder
pub mod ScriptLemmas
pub mod Restricted
mod Rows
pub mod SpanLemmas
pub mod SeenEvents
