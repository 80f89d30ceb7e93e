pub mod Bounds
pub mod Sums
pub mod Counts
pub mod Rows
pub mod Claim
pub mod Reports
pub mod Pools
