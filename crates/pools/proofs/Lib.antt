pub mod Sums
pub mod Having
