pub mod Adding
pub mod Distinct
pub mod Meanings
pub mod Members
pub mod Position
