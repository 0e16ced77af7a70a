pub mod Layout
pub mod Spans
