pub mod Lines
pub mod Reports
pub mod Tasks
pub mod Totals
pub mod Walks
pub mod Shown
