pub mod Counting
pub mod Stepping
pub mod Starting
pub mod Returning
