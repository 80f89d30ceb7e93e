pub mod Closing
pub mod Dropping
pub mod Opening
pub mod Tallying
