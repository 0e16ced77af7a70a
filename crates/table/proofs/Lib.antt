pub mod Sectioning
pub mod Refusals
