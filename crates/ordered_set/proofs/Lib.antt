pub mod Distinct
pub mod Position
