pub mod Saying
pub mod Short
