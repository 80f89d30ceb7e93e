pub mod Where
pub mod Looks
