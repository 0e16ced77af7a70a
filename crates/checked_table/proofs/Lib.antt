pub mod Listing
pub mod Stops
pub mod Holding
pub mod Opening
pub mod Matching
pub mod Bridging
pub mod Judging
pub mod Calls
