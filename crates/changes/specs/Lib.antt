pub mod Owners
pub mod Parts
