pub mod Mends
pub mod Retyped
pub mod Parts
pub mod Claims
