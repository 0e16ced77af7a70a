pub mod Sectioning
pub mod Ranges
pub mod Ruling
pub mod Counting
pub mod Refusals
