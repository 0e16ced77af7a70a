pub mod Rounds
pub mod Marks
pub mod Rank
pub mod Search
pub mod Growth
