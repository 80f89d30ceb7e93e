pub mod Answers
pub mod Exits
pub mod Held
pub mod Looks
pub mod Trails
pub mod Pools
pub mod Calls
